use Rattle.choice.proofs.Tables.{is_true}
use Rattle.choice.proofs.Keying.{Counted}
use Rattle.choice.proofs.Keys.containing.Given as goal

abbrev pub invariant-loop-i : goal.invariant-loop-i
invariant-loop-i g l = Counted (is_true g.row.HYDROGEN) l.self.keys l.c l.i l.count
