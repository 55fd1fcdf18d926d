-- The answer to a code of a component by the code's own tests. Assumes nothing.
use Rattle.std.specs.Prelude.{ℕ, ◌||◌, ◌==◌, nat_lt, nat_le, if◌then◌else◌, Result, Ok, Err}
use Rattle.refusal.specs.declared.Refusal.{Refusal}
use Rattle.refusal.specs.declared.Refusal.TheVariants.{Unknown, Retired, OutOfOrder}

-- the code of the record in a place, after the code before it
abbrev pub code_answer : ℕ → ℕ → ℕ → Result (Unit {0}) Refusal
code_answer code before place =
    if (code == 0) || (code == 14) || nat_lt 15 code then Err (Unknown place) else
    if (code == 9) || (code == 13) then Err (Retired place) else
    if nat_le code before then Err (OutOfOrder place) else
    Ok tt
