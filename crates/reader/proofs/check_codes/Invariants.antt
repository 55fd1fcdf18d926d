use Rattle.std.proofs.Common.{◌≡◌, ◌+◌, ◌-◌, ◌*◌}
use Rattle.sheet.specs.Components.{codes_reading}
use Rattle.reader.proofs.check_codes.Given as goal

-- the records from this place on are answered as all are
abbrev pub invariant-loop-place : goal.invariant-loop-place
invariant-loop-place l =
    codes_reading (l.n - l.place) l.s (1 + 5 * l.place) l.place l.before ≡ codes_reading l.n l.s 1 0 0
