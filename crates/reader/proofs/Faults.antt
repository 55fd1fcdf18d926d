-- The answer by the amounts: a component listed at 0, or the check's. Assumes nothing.
use Rattle.std.specs.Prelude.{◌≡◌, refl, ℕ, ◌≤◌, min, List, length, Bool, true, false, cond, eqb, ltb, Some, Result, Ok, Err, is_ok}
use Rattle.std.proofs.Common.{ap, sym, ◌∙◌, arith, eqb-true, ltb-true, ltb-false}
use Rattle.std.proofs.lemmas.Bool.{eqb-false, false≢true}
use Rattle.refusal.specs.Register.{total_refusal, carried}
use Rattle.refusal.specs.declared.Refusal.{Refusal}
use Rattle.refusal.specs.declared.Refusal.TheVariants.{OutOfRange}
use Rattle.refusal.specs.Refusal.{refusal_by, answer_by}
use Rattle.analysis.specs.Register.{code_count}
use Rattle.analysis.specs.Check.{refusal_by_tests, all_in_range, total_fits, total_of, analysis_refusal, lowest_fault, checked_of}
use Rattle.analysis.proofs.Laws.Lowest.{lowest_within, fault_number}
use Rattle.sheet.specs.Components.{codes_reading, zero_listed, first_zero}
use Rattle.sheet.specs.declared.Sheet.{Sheet}
use Rattle.sheet.specs.Sheet.{both, sections_of}
use Rattle.sheet.specs.Read.{read_amounts, amounts_refusal, lowest_in, by_amounts, content_of, read_of}
use Rattle.sheet.proofs.Laws.Cases.{amounts_long, amounts_zero, amounts_checked, read_amounts_lem, read_good}
use Rattle.sheet.proofs.Laws.Zeros.{first_within}
use Rattle.reader.specs.Inner.LowerCode.{lower_of}

module _ (listed : ℕ) where
  -- the lower code is told by the number: that of the check with 5, else the one that is listed
  lower_by : (t u : Bool) (code : ℕ)
      → let number = refusal_by_tests total_refusal t u in
      lower_of listed (answer_by number (carried number code 0) tt) ≡ cond (eqb number 5) (min listed code) listed
  lower_by false u code = refl
  lower_by true false code = refl
  lower_by true true code = refl

  -- the lower of the two, where the code listed is one of an analysis
  lower_is : (a : List ℕ) → length a ≡ code_count → listed ≤ code_count
      → lower_of listed (checked_of a) ≡ min listed (lowest_fault 0 a)
  unfolding checked_of analysis_refusal
  lower_is a long l = by_tests ∙ go (eqb (analysis_refusal a) 5) refl
    where
      by_tests : lower_of listed (answer_by (analysis_refusal a) (carried (analysis_refusal a) (lowest_fault 0 a) 0) tt)
          ≡ cond (eqb (analysis_refusal a) 5) (min listed (lowest_fault 0 a)) listed
      by_tests = lower_by (all_in_range 0 a) (total_fits (total_of a)) (lowest_fault 0 a)

      other : (analysis_refusal a ≡ 5 → ⊥) → listed ≡ min listed (lowest_fault 0 a)
      other n = by (ltb (lowest_fault 0 a) code_count) refl
        where
          by : (b : Bool) → ltb (lowest_fault 0 a) code_count ≡ b → listed ≡ min listed (lowest_fault 0 a)
          by true f = absurd (n (fault_number a long (ltb-true (lowest_fault 0 a) code_count f)))
          by false f = omega (arith, ltb-false (lowest_fault 0 a) code_count f)

      go : (u : Bool) → eqb (analysis_refusal a) 5 ≡ u
          → cond u (min listed (lowest_fault 0 a)) listed ≡ min listed (lowest_fault 0 a)
      go true f = refl
      go false f = other (eqb-false (analysis_refusal a) 5 f)

module _ (n : ℕ) (s : List ℕ) (codes : codes_reading n s 1 0 0 ≡ Ok tt) where
  long : length (read_amounts n s) ≡ code_count
  long = amounts_long n s 1 _

  -- a component is listed at 0, and the first has the code c
  pub zero_found : (a : List ℕ) → a ≡ read_amounts n s → (y : Result (Unit {0}) Refusal) → y ≡ checked_of a → (c : ℕ)
      → (zero_listed n s 1 ≡ true) × (first_zero n s 1 ≡ c) → (listed : ℕ) → listed ≡ c → (code : ℕ)
      → code ≡ lower_of listed y
      → ◌≡◌ {A = Result (Unit {0}) Refusal} (Err (OutOfRange code))
      (by_amounts (amounts_refusal n s) (lowest_in n s))
  unfolding lowest_in
  zero_found a e y k c (z, f) listed same code g =
      let w : c ≤ code_count = omega (arith, f, first_within n s 1 0 0 codes) in
      let q : lower_of c (checked_of (read_amounts n s)) ≡ min c (lowest_fault 0 (read_amounts n s)) =
      lower_is c (read_amounts n s) long w in
      let h : code ≡ min c (lowest_fault 0 (read_amounts n s)) = g ∙ ap (λ l. lower_of l y) same
      ∙ ap (lower_of c) (k ∙ ap checked_of e) ∙ q in
      rw (amounts_zero n s z, f, h)

  pub checked_found : (a : List ℕ) → a ≡ read_amounts n s → (y : Result (Unit {0}) Refusal) → y ≡ checked_of a
      → (zero_listed n s 1 ≡ false) × (first_zero n s 1 ≡ code_count)
      → y ≡ by_amounts (amounts_refusal n s) (lowest_in n s)
  unfolding lowest_in checked_of
  checked_found a e y k (z, f) =
      let m : min code_count (lowest_fault 0 (read_amounts n s)) ≡ lowest_fault 0 (read_amounts n s) =
      omega (arith, (lowest_within 0 (read_amounts n s)).1, long) in
      k ∙ ap checked_of e ∙ rw (amounts_checked n s z, f, m)

-- ---- the whole

module _ (s : List ℕ) (n m first : ℕ) (h : sections_of s ≡ Some (both n m first)) (d : codes_reading n s 1 0 0 ≡ Ok tt)
  where
    -- the number that the answer by the amounts tells: 5, or that of the analysis
    refused_by : (e : Refusal) → by_amounts (amounts_refusal n s) (lowest_in n s) ≡ Err e
        → (amounts_refusal n s ≡ 0 → ⊥) × (refusal_by (amounts_refusal n s) (carried (amounts_refusal n s) (lowest_in n s) 0) ≡ e)
    refused_by e k = go (eqb (amounts_refusal n s) 0) refl k
      where
        error : Result (Unit {0}) Refusal → Refusal
        error (Ok passed) = e
        error (Err refusal) = refusal

        go : (t : Bool) → eqb (amounts_refusal n s) 0 ≡ t
            → ◌≡◌ {A = Result (Unit {0}) Refusal}
            (cond t (Ok tt) (Err (refusal_by (amounts_refusal n s) (carried (amounts_refusal n s) (lowest_in n s) 0)))) (Err e)
            → (amounts_refusal n s ≡ 0 → ⊥) × (refusal_by (amounts_refusal n s) (carried (amounts_refusal n s) (lowest_in n s) 0) ≡ e)
        go true f k = absurd (false≢true (sym (ap is_ok k)))
        go false f k = (eqb-false _ _ f, ap error k)

    pub answer_amounts : (e : Refusal) → by_amounts (amounts_refusal n s) (lowest_in n s) ≡ Err e → read_of s ≡ Err e
    answer_amounts e k =
        let (some, same) = refused_by e k in
        read_amounts_lem s n m first h d some ∙ ap refused same
      where
        refused : Refusal → Result Sheet Refusal
        refused refusal = Err refusal

    passed : by_amounts (amounts_refusal n s) (lowest_in n s) ≡ Ok tt → amounts_refusal n s ≡ 0
    passed k = go (eqb (amounts_refusal n s) 0) refl k
      where
        go : (t : Bool) → eqb (amounts_refusal n s) 0 ≡ t
            → ◌≡◌ {A = Result (Unit {0}) Refusal}
            (cond t (Ok tt) (Err (refusal_by (amounts_refusal n s) (carried (amounts_refusal n s) (lowest_in n s) 0)))) (Ok tt)
            → amounts_refusal n s ≡ 0
        go true f k = eqb-true _ _ f
        go false f k = absurd (false≢true (ap is_ok k))

    pub answer_good : by_amounts (amounts_refusal n s) (lowest_in n s) ≡ Ok tt → (sheet : Sheet)
        → sheet ≡ content_of n m first s → Ok sheet ≡ read_of s
    answer_good k sheet e = ap read_as e ∙ sym (read_good s n m first h d (passed k))
      where
        read_as : Sheet → Result Sheet Refusal
        read_as sheet = Ok sheet
