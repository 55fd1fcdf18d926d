-- `start::start` meets its contract. Assumes nothing.
use Rattle.start.proofs.Columns.{Done}
use Rattle.start.proofs.start.Given as goal

-- the first components are shared
abbrev pub invariant-loop-c : goal.invariant-loop-c
invariant-loop-c l = Done l.mix l.choice.systems l.rows l.cells l.c
