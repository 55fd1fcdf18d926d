-- `analysis::is_in_range` meets its contract: the table's range is the register's. Assumes nothing.
use Rattle.analysis.specs.Register.{status_of}
use Rattle.analysis.proofs.Tables.{absent_tested, above_tested, below_tested}
use Rattle.analysis.proofs.is_in_range.Goals as goal

pub returns-then-amount-eq0 : goal.returns-then-amount-eq0
returns-then-amount-eq0 c = absent_tested _ _ c.requires c.if-amount-eq0.true

pub returns-then-least-amount : goal.returns-then-least-amount
unfolding status_of
returns-then-least-amount c = above_tested _ _ c.requires c.if-amount-eq0.false c.if-least-amount.true

pub returns-else-least-amount : goal.returns-else-least-amount
unfolding status_of
returns-else-least-amount c = below_tested _ _ c.requires c.if-amount-eq0.false c.if-least-amount.false
