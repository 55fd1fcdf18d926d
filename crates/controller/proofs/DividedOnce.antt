-- The quotient of a whole double is the fraction rounded once (document 01, "Writer, display, controller"). Assumes
-- nothing.
use Rattle.std.specs.Prelude.{◌≡◌, ℕ, suc, ◌*◌, ◌≤◌, Bool, true, false, ℤ, pos, negsuc, unsigned_abs, refl, Float}
use Rattle.std.proofs.Common.{ap, ◌∙◌, mul_assoc, mul_comm, mul-pos, arith}
use Rattle.std.specs.Float.{nan, inf, fin, binary64}
use Rattle.std.specs.Float.Ieee.{up, down, div, round, of_int, of_bits}
use Rattle.std.specs.Float.Ieee.Back.{round_whole}
use Rattle.std.specs.Float.Ieee.Exact.{HasValue}
use Rattle.std.specs.Float.Ieee.Fits.{down_pos}
use Rattle.std.specs.Float.Ieee.Scale.{round_same}
use Rattle.controller.specs.Record.{ten_million, methane_number}
use Rattle.controller.specs.Exact.{DividedOnce, converts_Exactly, negative}

same_fraction : (m u n d : ℕ) → m * u * 1 ≡ n * d → m * u * 1 * 10000000 ≡ n * (10000000 * d)
same_fraction m u n d h =
    ap (λ (x : ℕ). x * 10000000) h ∙ mul_assoc n d 10000000 ∙ ap (λ (x : ℕ). n * x) (mul_comm d 10000000)

-- the two fractions, whatever the sign
reduced : (s : Bool) (m : ℕ) (e : ℤ) (n : ℕ) → m * up e * 1 ≡ n * down e
    → round binary64 s (m * up e * 1) (10000000 * down e) ≡ round binary64 s n 10000000
reduced s m e n h =
    round_same binary64 s (m * up e * 1) (10000000 * down e) n 10000000
    (mul-pos (omega arith) (down_pos e)) (omega arith) (same_fraction m (up e) n (down e) h)

over : (x : Float) (s : Bool) (n : ℕ) → HasValue x s n 1 → div binary64 x ten_million ≡ round binary64 s n 10000000
unfolding div of_bits
over nan s n v = absurd v
over (inf t) s n v = absurd v
over (fin true m e) s n v =
    reduced true m e n v.1 ∙ ap (λ (t : Bool). round binary64 t n 10000000) v.0
over (fin false m e) s n v =
    reduced false m e n v.1 ∙ ap (λ (t : Bool). round binary64 t n 10000000) v.0

quotient_rounded : (units : ℤ) → unsigned_abs units ≤ 9007199254740992
    → div binary64 (of_int binary64 units) ten_million ≡ round binary64 (negative units) (unsigned_abs units) 10000000
unfolding of_int
quotient_rounded (pos n) h = over (round binary64 false n 1) false n (round_whole binary64 false n h)
quotient_rounded (negsuc n) h = over (round binary64 true (suc n) 1) true (suc n) (round_whole binary64 true (suc n) h)

pub divided_once : (units : ℤ) → unsigned_abs units ≤ 9007199254740992 → DividedOnce (methane_number units) units
unfolding methane_number
divided_once units h =
    record {
      count = of_int binary64 units;
      count_exact = converts_Exactly units h;
      quotient = refl;
      rounded = quotient_rounded units h;
    }
