-- The repository's folds over places, as std's over lists. Assumes nothing.
use Rattle.std.specs.Prelude.{◌≡◌, refl, Bool, true, false, ◌&&◌, ℕ, zero, suc, ◌+◌, ◌≤◌, ◌<◌, List, [], ◌∷◌, length, get_or, take, sum, ltb, leb}
use Rattle.std.specs.List.{list_all}
use Rattle.std.proofs.Common.{sym, ap, ap₂, ◌∙◌, arith, get_or-take, length-take-le, le-leb, lt-ltb, ltb-true, leb-true}
use Rattle.std.proofs.lemmas.Grind.{common_steps}
use Rattle.integer.specs.Figures.{million_parts}
use Rattle.refusal.specs.Keys.{is_in}
use Rattle.systems.specs.Systems.{component_count, candidates}
use Rattle.systems.specs.Choice.{system_count}
use Rattle.split.specs.Fold.{sum_to, all_to}
use Rattle.split.specs.Find.{chosen_fit, mixture_fit}

-- ---- sums

sum_first : (f : ℕ → ℕ) (n : ℕ) → sum_to f (suc n) ≡ f 0 + sum_to (λ i. f (suc i)) n
unfolding sum_to
sum_first f zero = omega arith
sum_first f (suc n) = omega (arith, sum_first f n)

sum_cons : (x : ℕ) (xs : List ℕ) → sum (x ∷ xs) ≡ x + sum xs
sum_cons x xs = grind (arith, common_steps)

pub sum_is : (xs : List ℕ) → sum xs ≡ sum_to (λ i. get_or xs i 0) (length xs)
unfolding sum_to
sum_is [] = refl
sum_is (x ∷ xs) = sum_cons x xs ∙ ap (λ n. x + n) (sum_is xs) ∙ sym (sum_first (λ i. get_or (x ∷ xs) i 0) (length xs))

pub mixture_is : (mix : List ℕ) → length mix ≡ component_count → leb (sum mix) million_parts ≡ mixture_fit mix
unfolding mixture_fit
mixture_is mix e = ap (λ n. leb n million_parts) (sum_is mix ∙ ap (sum_to (λ i. get_or mix i 0)) e)

-- ---- tests

swap : (a b c : Bool) → (a && (b && c)) ≡ (b && (a && c))
swap true b c = refl
swap false true c = refl
swap false false c = refl

all_first : (p : ℕ → Bool) (n : ℕ) → all_to p (suc n) ≡ (p 0 && all_to (λ i. p (suc i)) n)
unfolding all_to
all_first p zero = refl
all_first p (suc n) = ap (λ b. p (suc n) && b) (all_first p n) ∙ swap (p (suc n)) (p 0) (all_to (λ i. p (suc i)) n)

all_same : (p q : ℕ → Bool) (n : ℕ) → ((i : ℕ) → i < n → p i ≡ q i) → all_to p n ≡ all_to q n
unfolding all_to
all_same p q zero h = refl
all_same p q (suc n) h = ap₂ ◌&&◌ (h n (omega arith)) (all_same p q n (λ i l. h i (omega arith)))

all_is : (p : ℕ → Bool) (xs : List ℕ) → list_all p xs ≡ all_to (λ i. p (get_or xs i 0)) (length xs)
unfolding all_to
all_is p [] = refl
all_is p (x ∷ xs) = ap (λ b. p x && b) (all_is p xs) ∙ sym (all_first (λ i. p (get_or (x ∷ xs) i 0)) (length xs))

pub chosen_is : (systems : List ℕ) (count : ℕ) → 1 ≤ count → count ≤ system_count → length systems ≡ system_count
    → list_all (λ s. is_in s candidates) (take count systems) ≡ chosen_fit systems count
unfolding chosen_fit
chosen_is systems count some most long =
    let h : count ≤ length systems = omega arith in
    rw (lt-ltb 0 count some, le-leb count system_count most, chosen_fit)
    (all_is (λ s. is_in s candidates) (take count systems)
    ∙ ap (all_to (λ i. is_in (get_or (take count systems) i 0) candidates)) (length-take-le count systems h)
    ∙ all_same _ _ count (λ i l. ap (λ s. is_in s candidates) (get_or-take count systems i 0 l)))

pub chosen_not : (systems : List ℕ) (count : ℕ) → (1 ≤ count → count ≤ system_count → ⊥) → false ≡ chosen_fit systems count
unfolding chosen_fit
chosen_not systems count h = go (ltb 0 count) (leb count system_count) refl refl
  where
    go : (a b : Bool) → ltb 0 count ≡ a → leb count system_count ≡ b → false ≡ chosen_fit systems count
    go true true e f = absurd (h (ltb-true 0 count e) (leb-true count system_count f))
    go true false e f = rw (e, f, chosen_fit)
    go false b e f = rw (e, chosen_fit)
