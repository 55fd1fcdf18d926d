-- The answer of a mole analysis: 18 where it has hydrogen, else that of the ranges, then that of the total. Assumes
-- nothing.
use Rattle.std.proofs.Common.{◌≡◌, ℕ, List, Bool, true, false, cond, refl, Ok, Err, sym, map, eqb, get_or}
use Rattle.refusal.specs.Register.{carried, mole_sum_refusal}
use Rattle.refusal.specs.declared.Refusal.TheVariants.{MoleTotal, HydrogenInMoles}
use Rattle.analysis.specs.declared.Mole.{Mole}
use Rattle.analysis.specs.Register.{hydrogen_code}
use Rattle.analysis.specs.Amounts.{mole, mole_parts}
use Rattle.analysis.specs.CheckedCases.{number_of, fault_of}
use Rattle.analysis.specs.Check.{all_in_range, total_of, total_fits, refusal_by_tests, answer_by, lowest_fault}
use Rattle.analysis.specs.Check.{ranges_checked_of, mole_refusal, moles_checked_of}
use Rattle.analysis.proofs.Laws.Amounts.{mole_at}
use Rattle.analysis.proofs.Laws.Answers.{moles_told}
use Rattle.analysis.proofs.Checks.{then_of}

pub steps : (amounts : List Mole) → let a = map (λ m. m.0) amounts in
    moles_checked_of (mole_parts amounts)
    ≡ cond (eqb (get_or amounts hydrogen_code (mole 0)).0 0)
    (then_of (ranges_checked_of a) (cond (total_fits (total_of a)) (Ok tt) (Err MoleTotal))) (Err HydrogenInMoles)
unfolding moles_checked_of mole_refusal mole_parts
steps amounts =
    let a = map (λ m. m.0) amounts in
    rw (mole_at amounts hydrogen_code)
    (go (lowest_fault 0 a) (eqb (get_or a hydrogen_code 0) 0) (all_in_range 0 a) (total_fits (total_of a)))
  where
    go : (code : ℕ) (h t u : Bool) → answer_by (cond h (refusal_by_tests mole_sum_refusal t u) 18) code
        ≡ cond h (then_of (answer_by (cond t 0 5) code) (cond u (Ok tt) (Err MoleTotal))) (Err HydrogenInMoles)
    go code false t u = refl
    go code true false u = refl
    go code true true false = refl
    go code true true true = refl

module _ (moles : List ℕ) where
  pub number : mole_refusal moles ≡ number_of (moles_checked_of moles)
  unfolding moles_checked_of
  number = sym (moles_told moles).0

  pub fault : carried (mole_refusal moles) (lowest_fault 0 moles) 0 ≡ fault_of (moles_checked_of moles)
  unfolding moles_checked_of
  fault = sym (moles_told moles).1
