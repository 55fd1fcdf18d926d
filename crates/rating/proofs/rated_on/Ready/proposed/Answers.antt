-- `rated_on::Ready::proposed` meets its contract. Assumes nothing.
use Rattle.std.proofs.Common.{refl}
use Rattle.rating.proofs.CallCases.{is_answered, answered}
use Rattle.rating.proofs.rated_on.Ready.proposed.Goals as goal

pub unwrap-requires : goal.unwrap-requires
unwrap-requires c =
    rw (is_answered _ _ _ _ c.args.limit c.args.cells c.args.self.now.proposal _ c.proposed.ensures) refl

pub returns : goal.returns
returns c =
    answered _ _ _ _ c.args.limit c.args.cells c.args.self.now.proposal _ c.proposed.ensures _ c.unwrap.ensures
