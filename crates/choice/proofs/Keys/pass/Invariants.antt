use Rattle.choice.proofs.Listing.{Turns}
use Rattle.choice.proofs.Tables.{is_true}
use Rattle.choice.proofs.Keys.pass.Given as goal

abbrev pub invariant-loop-c : goal.invariant-loop-c
invariant-loop-c g l = Turns (is_true g.row.HYDROGEN) l.present l.wanted l.fn.self.keys l.self.keys l.c-index
