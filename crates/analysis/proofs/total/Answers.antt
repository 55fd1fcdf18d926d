-- `analysis::total` meets its contract: the library's sum is the rules' total. Assumes nothing.
use Rattle.std.proofs.Common.{◌≡◌, ◌∙◌, rules, sum, map}
use Rattle.analysis.proofs.Sums.{sum_is}
use Rattle.analysis.proofs.total.Goals as goal

pub returns : goal.returns
returns g c =
    let e : c.sum.result ≡ sum (map g.A.Amount.parts_of c.args.amounts.now) = search rules in
    e ∙ sum_is (map g.A.Amount.parts_of c.args.amounts.now)
