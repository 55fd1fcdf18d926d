use Rattle.reader.proofs.Turns.{Looked}
use Rattle.reader.proofs.check_amounts.Given as goal

abbrev pub invariant-loop-i : goal.invariant-loop-i
invariant-loop-i l = Looked l.s l.n l.i
