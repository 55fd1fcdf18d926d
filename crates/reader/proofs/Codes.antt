-- What the tests of a code say of the register, and the codes of the records from one on. Assumes nothing.
use Rattle.std.specs.Prelude.{◌≡◌, refl, ℕ, suc, ◌+◌, ◌-◌, ◌*◌, ◌<◌, List, get_or, replicate, Bool, true, false, ◌||◌, cond, T, eqb, ltb, leb, Result, Ok, Err}
use Rattle.std.proofs.Common.{sym, ◌∙◌, arith, lt-ltb, ltb-true, ltb-false}
use lib.Dec.{eqb→eq}
use Rattle.std.proofs.Math.Bool.{or-true}
use Rattle.refusal.specs.declared.Refusal.{Refusal}
use Rattle.reader.specs.Inner.CodeAnswer.{code_answer}
use Rattle.refusal.specs.declared.Refusal.TheVariants.{Unknown, Retired, OutOfOrder}
use Rattle.refusal.specs.Refusal.{answer_by}
use Rattle.refusal.specs.Refusal as refusal
use Rattle.section.specs.Walk.{walk_of}
use Rattle.sheet.specs.Split.{record_size}
use Rattle.sheet.specs.Sheet.{judged, sections_of}
use Rattle.analysis.specs.Register.{code_count, status_of}
use Rattle.analysis.proofs.Laws.Table.{at}
use Rattle.sheet.specs.Components.{component_size, refusal_by, code_refusal, codes_reading}
use Rattle.sheet.proofs.Laws.Cases.{status_above}

-- the code's tests of a code are the register's
abbrev tested : ℕ → ℕ
tested c = cond (eqb c 0 || eqb c 14 || ltb 15 c) 2 (cond (eqb c 9 || eqb c 13) 3 0)

abbrev places : List ℕ
places = replicate code_count 0

tested_low : (c : ℕ) → c < code_count → T (eqb (tested c) (refusal_by (status_of c)))
unfolding status_of
tested_low c h = at (λ k x. eqb (tested k) (refusal_by (status_of k))) places tt c h

tested_is : (c : ℕ) → tested c ≡ refusal_by (status_of c)
tested_is c = go (ltb c code_count) refl
  where
    low : c < code_count → tested c ≡ refusal_by (status_of c)
    low h = eqb→eq (tested c) (refusal_by (status_of c)) (tested_low c h)

    go : (b : Bool) → ltb c code_count ≡ b → tested c ≡ refusal_by (status_of c)
    go true e = low (ltb-true c code_count e)
    go false e =
        let h = ltb-false c code_count e in
        rw (lt-ltb 15 c (omega arith), or-true) (sym (status_above c h))

-- so the answer to a code is by those tests
pub code_answer_is : (code before place : ℕ)
    → answer_by (code_refusal code before) place tt ≡ code_answer code before place
unfolding code_refusal
code_answer_is code before place =
    rw (sym (tested_is code))
    (go (eqb code 0 || eqb code 14 || ltb 15 code) (eqb code 9 || eqb code 13) (leb code before))
  where
    go : (t u v : Bool) → ◌≡◌ {A = Result (Unit {0}) Refusal}
        (answer_by (cond (eqb (cond t 2 (cond u 3 0)) 0) (cond v 4 0) (cond t 2 (cond u 3 0))) place tt)
        (cond t (Err (Unknown place)) (cond u (Err (Retired place)) (cond v (Err (OutOfOrder place)) (Ok tt))))
    go true u v = refl
    go false true v = refl
    go false false true = refl
    go false false false = refl

-- and what they answer is the register's
pub registered : (code before place : ℕ) (r : Result (Unit {0}) Refusal)
    → r ≡ code_answer code before place → r ≡ answer_by (code_refusal code before) place tt
registered code before place r e = e ∙ sym (code_answer_is code before place)

-- the first refusal of two
abbrev pub then_of : Result (Unit {0}) Refusal → Result (Unit {0}) Refusal → Result (Unit {0}) Refusal
then_of (Ok passed) next = next
then_of (Err refusal) next = Err refusal

-- the records from place i on are answered by the first of them and the others
pub codes_turn : (n i : ℕ) (s : List ℕ) (p : ℕ) → i < n
    → let code = get_or s (1 + component_size * i) 0 in
    codes_reading (n - i) s (1 + component_size * i) i p
    ≡ then_of (code_answer code p i)
    (codes_reading (n - (i + 1)) s (1 + component_size * (i + 1)) (i + 1) code)
codes_turn n i s p below =
    let e : n - i ≡ suc (n - (i + 1)) = omega arith in
    let f : 1 + component_size * (i + 1) ≡ 1 + component_size * i + component_size = omega arith in
    rw (e, f, sym (code_answer_is (get_or s (1 + component_size * i) 0) p i)) (go (code_refusal (get_or s (1 + component_size * i) 0) p)
    (codes_reading (n - (i + 1)) s (1 + component_size * i + component_size) (i + 1) (get_or s (1 + component_size * i) 0))
    (eqb (code_refusal (get_or s (1 + component_size * i) 0) p) 0))
  where
    go : (number : ℕ) (rest : Result (Unit {0}) Refusal) (t : Bool)
        → cond t rest (Err (refusal.refusal_by number i)) ≡ then_of (cond t (Ok tt) (Err (refusal.refusal_by number i))) rest
    go number rest true = refl
    go number rest false = refl

-- the sections are by the walk
pub sections_is : (s : List ℕ) → sections_of s ≡ judged (walk_of s component_size record_size)
unfolding sections_of
sections_is s = refl
