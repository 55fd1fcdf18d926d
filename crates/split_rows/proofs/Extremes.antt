-- The spread of numbers from the least and the greatest of them. Assumes nothing.
use Rattle.std.specs.Prelude.{◌≡◌, List, [], length, ℤ, pos, ◌-ℤ◌, ◌≤ℤ◌, nat_abs, unsigned_abs, All, Contains}
use Rattle.std.proofs.Common.{sym, ap, ap₂, ◌∙◌, arith, subst}
use Rattle.std.proofs.Math.IntN.{+ℤ_invr}
use Rattle.std.proofs.lemmas.Int.{ints}
use Rattle.std.proofs.lemmas.List.{get_or_default}
use Rattle.std.proofs.lemmas.List.Elements.{All-get_or}
use Rattle.split.specs.Fold.{greatest_to, least_to}
use Rattle.split.specs.Rating.{spread_of}
use Rattle.split.proofs.Laws.Spread.{at_most, at_least, greatest_in, least_in}
use Rattle.split_rows.specs.Rows.{listed}

antisym : (a b : ℤ) → a ≤ℤ b → b ≤ℤ a → a ≡ b
antisym a b h g = omega (arith, ints, h, g)

module _ (xs : List ℤ) where
  pub spread_none : xs ≡ [] → 0 ≡ spread_of (listed xs) (length xs)
  unfolding spread_of greatest_to least_to
  spread_none e = rw e (sym (ap nat_abs (+ℤ_invr (pos 0))))

  least_is : (low : ℤ) → Contains xs low → All (λ x. low ≤ℤ x) xs → least_to (listed xs) (length xs) ≡ low
  least_is low (k, h, e) all =
      let (i, l, f) = least_in (listed xs) (length xs) in
      antisym _ _
      (subst (λ z. least_to (listed xs) (length xs) ≤ℤ z) (sym (get_or_default xs k low (pos 0) h) ∙ e)
      (at_least (listed xs) (length xs) k h))
      (subst (λ z. low ≤ℤ z) (sym f) (All-get_or (λ x. low ≤ℤ x) xs i (pos 0) (omega (arith, l, h)) all))

  greatest_is : (high : ℤ) → Contains xs high → All (λ x. x ≤ℤ high) xs → greatest_to (listed xs) (length xs) ≡ high
  greatest_is high (k, h, e) all =
      let (i, l, f) = greatest_in (listed xs) (length xs) in
      antisym _ _
      (subst (λ z. z ≤ℤ high) (sym f) (All-get_or (λ x. x ≤ℤ high) xs i (pos 0) (omega (arith, l, h)) all))
      (subst (λ z. z ≤ℤ greatest_to (listed xs) (length xs)) (sym (get_or_default xs k high (pos 0) h) ∙ e)
      (at_most (listed xs) (length xs) k h))

  pub spread_is : (low high : ℤ) → Contains xs low → All (λ x. low ≤ℤ x) xs → Contains xs high → All (λ x. x ≤ℤ high) xs
      → unsigned_abs (high -ℤ low) ≡ spread_of (listed xs) (length xs)
  unfolding spread_of
  spread_is low high c a d b = sym (ap₂ (λ x y. nat_abs (x -ℤ y)) (greatest_is high d b) (least_is low c a))
