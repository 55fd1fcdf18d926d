-- The check's answer: that of the ranges, and where they hold that of the total. Assumes nothing.
use Rattle.std.proofs.Common.{◌≡◌, ℕ, List, Bool, true, false, cond, refl, Ok, Err, Result, sym, map}
use Rattle.refusal.specs.Register.{carried, total_refusal}
use Rattle.refusal.specs.declared.Refusal.{Refusal}
use Rattle.refusal.specs.declared.Refusal.TheVariants.{Total}
use Rattle.analysis.specs.declared.Volume.{Volume}
use Rattle.analysis.specs.Amounts.{volume_parts}
use Rattle.analysis.specs.CheckedCases.{number_of, fault_of}
use Rattle.analysis.specs.Check.{all_in_range, total_of, total_fits, refusal_by_tests, answer_by, lowest_fault}
use Rattle.analysis.specs.Check.{ranges_checked_of, analysis_refusal, checked_of}
use Rattle.analysis.proofs.Laws.Answers.{analysis_told}

-- the first refusal of two
abbrev pub then_of : Result (Unit {0}) Refusal → Result (Unit {0}) Refusal → Result (Unit {0}) Refusal
then_of (Ok done) next = next
then_of (Err refusal) next = Err refusal

pub steps : (volumes : List Volume) → let a = map (λ v. v.0) volumes in
    checked_of (volume_parts volumes) ≡ then_of (ranges_checked_of a) (cond (total_fits (total_of a)) (Ok tt) (Err Total))
unfolding checked_of analysis_refusal volume_parts
steps volumes =
    let a = map (λ v. v.0) volumes in go (lowest_fault 0 a) (all_in_range 0 a) (total_fits (total_of a))
  where
    go : (code : ℕ) (t u : Bool) → answer_by (refusal_by_tests total_refusal t u) code
        ≡ then_of (answer_by (cond t 0 5) code) (cond u (Ok tt) (Err Total))
    go code false u = refl
    go code true false = refl
    go code true true = refl

module _ (a : List ℕ) where
  pub number : analysis_refusal a ≡ number_of (checked_of a)
  unfolding checked_of
  number = sym (analysis_told a).0

  pub fault : carried (analysis_refusal a) (lowest_fault 0 a) 0 ≡ fault_of (checked_of a)
  unfolding checked_of
  fault = sym (analysis_told a).1
