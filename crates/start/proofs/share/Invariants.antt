-- `start::share` meets its contract. Assumes nothing.
use Rattle.std.proofs.Common.{◌≡◌, ◌≤◌, ◌/◌, ◌%◌}
use Rattle.split.specs.Start.{sharers_of}
use Rattle.start.specs.Inner.Column.{column_to}
use Rattle.start.proofs.share.Given as goal

-- the first rows have their parts
abbrev pub invariant-loop-s : goal.invariant-loop-s
invariant-loop-s l =
    (l.rank ≡ sharers_of l.systems l.c l.s) × (l.rank ≤ l.s)
    × (l.cells ≡ column_to l.systems l.c (l.parts / l.among) (l.parts % l.among) l.initial.cells l.s)
