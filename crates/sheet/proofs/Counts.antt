-- The counts that a split may have, by the code's tests: computed at each up to the most. Assumes nothing.
use Rattle.std.specs.Prelude.{◌≡◌, refl, ℕ, suc, ◌%◌, ◌≤◌, ◌<◌, Bool, true, false, ◌&&◌, ◌||◌, eqb, leb, replicate}
use Rattle.std.proofs.Common.{sym, ◌∙◌, arith, ne_eqb, leb-true, leb-false}
use mathlib.Core.Bool.{beq}
use Rattle.refusal.specs.Keys.{is_in}
use Rattle.refusal.specs.Laws.Alike.{beq_is}
use Rattle.refusal.specs.Laws.Keys.{each_passes}
use Rattle.analysis.proofs.Laws.Table.{at}
use Rattle.sheet.specs.Split.{shortest_split, longest_split, split_counts, allowed_count}

abbrev tested : ℕ → Bool
tested m = eqb m 0 || (leb shortest_split m && leb m longest_split && eqb (m % 3) 0)

counted : (m : ℕ) → m ≤ longest_split → allowed_count m ≡ tested m
unfolding allowed_count is_in
counted m l =
    beq_is (allowed_count m) (tested m)
    (at (λ k x. beq (allowed_count k) (tested k)) (replicate (suc longest_split) 0) tt m (omega arith))

-- none is above the most
high : (m : ℕ) → longest_split < m → allowed_count m ≡ false
unfolding allowed_count is_in
high m l = go (allowed_count m) refl
  where
    go : (b : Bool) → allowed_count m ≡ b → b ≡ false
    go true e =
        absurd (omega (arith, leb-true m longest_split (each_passes (λ k. leb k longest_split) m split_counts refl e)))
    go false e = refl

pub allowed_is : (m : ℕ) → allowed_count m ≡ (eqb m 0 || (leb shortest_split m && leb m longest_split && eqb (m % 3) 0))
allowed_is m = go (leb m longest_split) refl
  where
    above : (b c : Bool) → (b && false && c) ≡ false
    above true c = refl
    above false c = refl

    go : (b : Bool) → leb m longest_split ≡ b → allowed_count m ≡ tested m
    go true e = counted m (leb-true m longest_split e)
    go false e =
        let l = leb-false m longest_split e in
        high m l ∙ sym (rw (ne_eqb m 0 (λ z. omega arith), e) (above (leb shortest_split m) (eqb (m % 3) 0)))
