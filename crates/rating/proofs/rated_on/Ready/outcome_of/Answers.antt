-- `rated_on::Ready::outcome_of` meets its contract. Assumes nothing.
use Rattle.std.proofs.Common.{◌∙◌}
use Rattle.integer.proofs.Laws.Bits.{read_back}
use Rattle.rating.proofs.CallCases.{found_none, found_is_some}
use Rattle.rating.proofs.rated_on.Ready.outcome_of.Goals as goal

pub returns-in-Unbalanced : goal.returns-in-Unbalanced
returns-in-Unbalanced c = c.refused.ensures ∙ found_none _ _ _ c.args.found c.in-Unbalanced.is

pub returns-in-Balanced : goal.returns-in-Balanced
returns-in-Balanced c =
    found_is_some _ _ _ c.args.found _ _ c.rating_of.result _ _ c.in-Balanced.is c.args.self.now.room
    (read_back c.rating_of.result c.rating_of.type_inv) c.rating_of.ensures c.split_of.ensures
