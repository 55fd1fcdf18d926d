-- What holds of each candidate, by one computed test. Assumes nothing.
use Prim.Native.Nat.{ℕ, ◌+◌, ◌≤◌, ◌<◌}
use mathlib.Core.Path.{◌≡◌, sym}
use mathlib.Core.Bool.{Bool, true, false, not, ◌||◌}
use native.Mathlib.Omega.{arith}
use lib.Dec.{T, eqb, leb, leb→le}
use lib.ListN.{get_or, length}
use borrow.Author.Tests.{eq-eqb, ne_eqb}
use Rattle.systems.specs.Choice.{mark_count, candidates_for}
use Rattle.refusal.specs.Keys.{is_in}
use Rattle.systems.specs.Systems.{candidates, Candidate}
use Rattle.systems.proofs.Laws.Table.{of_true, to_true, every_to, each_to}
use Rattle.choice.specs.Inner.Keys.{key_count}

-- a const parameter of type bool, which proofs have as a number
abbrev pub is_true : ℕ → Bool
is_true n = not (eqb n 0)

-- ---- the candidates

-- with room for all
pub offered_few : (hy : Bool) → length (candidates_for hy) ≤ key_count
offered_few true = omega arith
offered_few false = omega arith

low : Bool → ℕ → Bool
low hy i = leb (get_or (candidates_for hy) i 0 + 1) mark_count

low_all : (hy : Bool) → T (every_to (low hy) (length (candidates_for hy)))
unfolding low
low_all true = tt
low_all false = tt

pub candidate_lt : (hy : Bool) (i : ℕ) → i < length (candidates_for hy) → get_or (candidates_for hy) i 0 < mark_count
unfolding low
candidate_lt hy i h =
    let l = leb→le (get_or (candidates_for hy) i 0 + 1) mark_count
    (each_to (low hy) (length (candidates_for hy)) (low_all hy) i h) in
    omega arith

some : Bool → ℕ → Bool
some hy i = leb 1 (get_or (candidates_for hy) i 0)

some_all : (hy : Bool) → T (every_to (some hy) (length (candidates_for hy)))
unfolding some
some_all true = tt
some_all false = tt

-- none is 0, which stands for no system
pub candidate_some : (hy : Bool) (i : ℕ) → i < length (candidates_for hy) → get_or (candidates_for hy) i 0 ≡ 0 → ⊥
unfolding some
candidate_some hy i h e =
    let l = leb→le 1 (get_or (candidates_for hy) i 0)
    (each_to (some hy) (length (candidates_for hy)) (some_all hy) i h) in
    absurd (omega arith)

-- the candidates differ
apart_at : Bool → ℕ → ℕ → Bool
apart_at hy i j = eqb i j || not (eqb (get_or (candidates_for hy) i 0) (get_or (candidates_for hy) j 0))

apart : Bool → ℕ → Bool
apart hy i = every_to (apart_at hy i) (length (candidates_for hy))

apart_all : (hy : Bool) → T (every_to (apart hy) (length (candidates_for hy)))
unfolding apart apart_at
apart_all true = tt
apart_all false = tt

pub candidates_apart : (hy : Bool) (i j : ℕ) → i < length (candidates_for hy) → j < length (candidates_for hy)
    → (i ≡ j → ⊥) → get_or (candidates_for hy) i 0 ≡ get_or (candidates_for hy) j 0 → ⊥
unfolding apart apart_at
candidates_apart hy i j h l n e =
    go (eqb i j) (eqb (get_or (candidates_for hy) i 0) (get_or (candidates_for hy) j 0)) (ne_eqb i j n)
    (eq-eqb (get_or (candidates_for hy) i 0) (get_or (candidates_for hy) j 0) e)
    (each_to (apart_at hy i) (length (candidates_for hy))
    (each_to (apart hy) (length (candidates_for hy)) (apart_all hy) i h) j l)
  where
    go : (a b : Bool) → a ≡ false → b ≡ true → T (a || not b) → ⊥
    go true b p q t = of_true false (sym p)
    go false true p q t = t
    go false false p q t = of_true false q

listed_at : Bool → ℕ → Bool
listed_at hy i = is_in (get_or (candidates_for hy) i 0) candidates

listed_all : (hy : Bool) → T (every_to (listed_at hy) (length (candidates_for hy)))
unfolding listed_at is_in
listed_all true = tt
listed_all false = tt

pub is_candidate : (hy : Bool) (i : ℕ) → i < length (candidates_for hy) → Candidate (get_or (candidates_for hy) i 0)
unfolding listed_at
is_candidate hy i h =
    record {
      listed = to_true (listed_at hy i) (each_to (listed_at hy) (length (candidates_for hy)) (listed_all hy) i h);
    }
