use Rattle.choice.proofs.Tables.{is_true}
use Rattle.choice.proofs.Keying.{Best}
use Rattle.choice.proofs.Keys.fittest.Given as goal

abbrev pub invariant-loop-i : goal.invariant-loop-i
invariant-loop-i g l = Best (is_true g.row.HYDROGEN) l.self.keys l.c l.i l.most l.fittest
