-- The writer's answers: each is the one of the definition, by the tests that lead to it. Assumes nothing.
use Rattle.std.proofs.Common.{◌≡◌, refl, ap, sym, ◌∙◌, arith, ℕ, ◌+◌, ◌*◌, ◌≤◌, ◌<◌, List, ◌++◌, length, drop, Bool, true, false, cond, eqb, Result, Ok, Err, is_ok}
use Rattle.std.proofs.lemmas.Bool.{eqb-false, false≢true}
use Rattle.refusal.specs.declared.Refusal.{Refusal}
use Rattle.refusal.specs.declared.Refusal.TheVariants.{Torn, ShortBlank}
use Rattle.refusal.specs.Register as register
use Rattle.refusal.specs.Refusal.{refusal_by, answer_by}
use Rattle.analysis.specs.Check.{analysis_refusal, lowest_fault, checked_of}
use Rattle.analysis.proofs.Laws.Answers.{checked_in_range}
use Rattle.sheet.specs.declared.Split.{Split}
use Rattle.sheet.specs.Split.{record_size, allowed_count}
use Rattle.sheet.specs.Components.{component_size, listed_count}
use Rattle.sheet.specs.Sheet.{sheet_of}
use Rattle.sheet.specs.Write.{write_refusal, written_of, left_of}
use Rattle.sheet.proofs.Laws.Cases.{length_sheet, number_count, number_check, number_short, number_none, number_back}
use Rattle.sheet.proofs.Laws.Cases.{written_length_lem, written_refused, written_back, left_sheet, left_same}

abbrev pub refused : Refusal → Result ℕ Refusal
refused refusal = Err refusal

abbrev pub length_is : ℕ → Result ℕ Refusal
length_is long = Ok long

-- an answer by its number that is a refusal is the refusal of that number
refused_by : (number carried : ℕ) (e : Refusal)
    → ◌≡◌ {A = Result (Unit {0}) Refusal} (answer_by number carried tt) (Err e)
    → (number ≡ 0 → ⊥) × (refusal_by number carried ≡ e)
refused_by number carried e k = go (eqb number 0) refl k
  where
    error : Result (Unit {0}) Refusal → Refusal
    error (Ok passed) = e
    error (Err refusal) = refusal

    go : (t : Bool) → eqb number 0 ≡ t
        → ◌≡◌ {A = Result (Unit {0}) Refusal} (cond t (Ok tt) (Err (refusal_by number carried))) (Err e)
        → (number ≡ 0 → ⊥) × (refusal_by number carried ≡ e)
    go true f k = absurd (false≢true (sym (ap is_ok k)))
    go false f k = (eqb-false number 0 f, ap error k)

module _ (a : List ℕ) (p : Split) (size : ℕ) where
  pub answer_count : allowed_count p.count ≡ false → refused Torn ≡ written_of a p size
  answer_count h = sym (written_refused a p size 1 (number_count a p size h) (λ z. omega arith))

  module _ (h : allowed_count p.count ≡ true) where
    pub answer_check : (e : Refusal) → checked_of a ≡ Err e → refused e ≡ written_of a p size
    unfolding checked_of
    answer_check e k =
        let c = register.carried (analysis_refusal a) (lowest_fault 0 a) 0 in
        let (some, same) = refused_by (analysis_refusal a) c e k in
        sym (written_refused a p size (analysis_refusal a) (number_check a p size h some) some ∙ ap refused same)

    module _ (k : checked_of a ≡ Ok tt) (long : ℕ)
        (l : long ≡ 2 + component_size * listed_count a + record_size * p.count) where
      exact : long ≡ length (sheet_of a p)
      exact = omega (arith, length_sheet a p)

      pub answer_short : size < long → refused ShortBlank ≡ written_of a p size
      answer_short s =
          let g = number_short a p size h (checked_in_range a k) (omega (arith, exact)) in
          sym (written_refused a p size 14 g (λ z. omega arith))

      pub answer_length : long ≤ size → length_is long ≡ written_of a p size
      answer_length s =
          let g = number_none a p size h (checked_in_range a k) (omega (arith, exact)) in
          ap length_is exact ∙ sym (written_length_lem a p size g)

-- the buffer: as it was beside a refusal, the sheet at its start beside a length
module _ (a : List ℕ) (p : Split) (b : List ℕ) where
  module _ (n : ℕ) (e : written_of a p (length b) ≡ Ok n) where
    number : write_refusal a p (length b) ≡ 0
    number = (written_back a p (length b) e).0

    -- a length says that the sheet may be written and has room
    pub room : (allowed_count p.count ≡ true) × (length (sheet_of a p) ≤ length b)
    room = let g = number_back a p (length b) number in (g.0, g.2)

    pub wrote : (left : List ℕ) → left ≡ sheet_of a p ++ drop (length (sheet_of a p)) b → left ≡ left_of a p b
    wrote left d = d ∙ sym (left_sheet a p b number)

  pub left_alone : (e : Refusal) → written_of a p (length b) ≡ Err e → b ≡ left_of a p b
  left_alone e k =
      sym (left_same a p b (λ z. false≢true (sym (ap is_ok (sym (written_length_lem a p (length b) z) ∙ k)))))
