-- `writer::listed` meets its contract: one for each amount that is not 0. Assumes nothing.
use Rattle.std.proofs.Common.{◌≡◌, ◌∙◌, rules, arith, sum, map, cond, not, ◌==◌}
use Rattle.writer.proofs.Turns.{listed_is, listed_most}
use Rattle.writer.proofs.listed.Goals as goal

pub returns : goal.returns
returns c =
    let each : c.sum.result ≡ sum (map (λ x. cond (not (x == 0)) 1 0) c.args.amounts.now) = search rules in
    let count = each ∙ listed_is c.args.amounts.now in
    (count, omega (arith, count, listed_most c.args.amounts.now))
