-- `rated_on::Ready::rating_of` meets its contract. Assumes nothing.
use Rattle.std.proofs.Common.{arith}
use Rattle.rating.proofs.CallCases.{rating_value, not_refused}
use Rattle.rating.proofs.rated_on.Ready.rating_of.Goals as goal

pub unreachable-requires : goal.unreachable-requires
unreachable-requires c =
    not_refused _ _ _ _ _ _ c.requires _ c.proposed.ensures (omega arith) _ _ c.in-Refused.is

pub returns : goal.returns
returns c =
    rating_value _ _ _ _ _ _ c.args.self.now.proposal c.requires _ c.proposed.ensures (omega arith) _ _ _
    c.in-Rated.is
