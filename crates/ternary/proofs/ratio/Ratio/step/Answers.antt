-- `ternary::ratio::Ratio::step` meets its contract. Assumes nothing.
use Rattle.ternary.proofs.Signs.{more_ok, less_gives}
use Rattle.ternary.proofs.ratio.Ratio.step.Goals as goal

pub returns-then-acc-lt0 : goal.returns-then-acc-lt0
returns-then-acc-lt0 c =
    less_gives c.args.acc c.args.c c.ranges.acc c.ranges.c c.requires c.args.self.n c.args.self.d
    c.args.self.digits.n_le c.share.result c.share.type_inv c.if-acc-lt0.true c.share.ensures

pub overflow_add-result : goal.overflow_add-result
overflow_add-result c =
    more_ok c.args.acc c.args.c c.ranges.acc c.ranges.c c.requires c.args.self.n c.args.self.d
    c.args.self.digits.n_le c.share-2.result c.share-2.type_inv c.share-2.ensures
