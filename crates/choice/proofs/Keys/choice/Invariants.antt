use Rattle.std.proofs.Common.{◌≤◌}
use Rattle.choice.proofs.Listing.{Lists}
use Rattle.choice.proofs.Tables.{is_true}
use Rattle.choice.proofs.Keys.choice.Given as goal

abbrev pub invariant-loop-i : goal.invariant-loop-i
invariant-loop-i g l = (l.choice.count ≤ l.i) × Lists (is_true g.row.HYDROGEN) l.self.keys l.choice.count l.choice.systems l.i
