-- The total of amounts is the library's sum. Assumes nothing.
use Rattle.std.proofs.Common.{◌≡◌, ℕ, List, [], ◌∷◌, refl, arith, sum}
use Rattle.std.proofs.lemmas.Grind.{common_steps}
use Rattle.analysis.specs.Check.{total_of}

pub sum_is : (xs : List ℕ) → sum xs ≡ total_of xs
sum_is [] = refl
sum_is (x ∷ xs) = grind (arith, common_steps, sum_is xs)
