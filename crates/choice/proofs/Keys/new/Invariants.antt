use Rattle.choice.proofs.Keying.{Fresh}
use Rattle.choice.proofs.Tables.{is_true}
use Rattle.choice.proofs.Keys.new.Given as goal

abbrev pub invariant-loop-i : goal.invariant-loop-i
invariant-loop-i g l = Fresh (is_true g.row.HYDROGEN) l.mix l.keys l.i
