-- The refusals as the code has them: the number, the word and what each carries, and what an answer that may be a
-- refusal says of it. Assumes nothing.
use Rattle.std.specs.Prelude.{ℕ, List, Result, Ok, Err, if◌then◌else◌, ◌==◌, codes}
use Rattle.refusal.specs.declared.Refusal.{Refusal}
use Rattle.refusal.specs.declared.Refusal.TheVariants.{Torn, Unknown, Retired, OutOfOrder, OutOfRange, Total, Misfit}
use Rattle.refusal.specs.declared.Refusal.TheVariants.{Unsummed, EmptySystem, Wide, Unbalanced, NoMixture, NoSystem}
use Rattle.refusal.specs.declared.Refusal.TheVariants.{ShortBlank, MoleTotal, TooFew, Share, HydrogenInMoles}
use Rattle.refusal.specs.Register.{torn_refusal, unknown_refusal, retired_refusal, out_of_order_refusal}
use Rattle.refusal.specs.Register.{out_of_range_refusal, total_refusal, misfit_refusal, unsummed_refusal}
use Rattle.refusal.specs.Register.{empty_system_refusal, wide_refusal, unbalanced_refusal, no_mixture_refusal}
use Rattle.refusal.specs.Register.{no_system_refusal, short_blank_refusal, mole_sum_refusal, too_few_refusal}
use Rattle.refusal.specs.Register.{share_refusal, mole_blend_refusal}

-- its number
abbrev pub number_of : Refusal → ℕ
number_of Torn = torn_refusal
number_of (Unknown place) = unknown_refusal
number_of (Retired place) = retired_refusal
number_of (OutOfOrder place) = out_of_order_refusal
number_of (OutOfRange code) = out_of_range_refusal
number_of Total = total_refusal
number_of Misfit = misfit_refusal
number_of Unsummed = unsummed_refusal
number_of EmptySystem = empty_system_refusal
number_of Wide = wide_refusal
number_of Unbalanced = unbalanced_refusal
number_of NoMixture = no_mixture_refusal
number_of NoSystem = no_system_refusal
number_of ShortBlank = short_blank_refusal
number_of MoleTotal = mole_sum_refusal
number_of TooFew = too_few_refusal
number_of Share = share_refusal
number_of HydrogenInMoles = mole_blend_refusal

-- what it carries: the record's place with 2 to 4, the lowest code at fault with 5; 0 where there is neither
abbrev pub carried_of : Refusal → ℕ
carried_of Torn = 0
carried_of (Unknown place) = place
carried_of (Retired place) = place
carried_of (OutOfOrder place) = place
carried_of (OutOfRange code) = code
carried_of Total = 0
carried_of Misfit = 0
carried_of Unsummed = 0
carried_of EmptySystem = 0
carried_of Wide = 0
carried_of Unbalanced = 0
carried_of NoMixture = 0
carried_of NoSystem = 0
carried_of ShortBlank = 0
carried_of MoleTotal = 0
carried_of TooFew = 0
carried_of Share = 0
carried_of HydrogenInMoles = 0

-- its word, in the register's spelling
abbrev pub text_of : Refusal → List ℕ
text_of Torn = codes "torn"
text_of (Unknown place) = codes "unknown"
text_of (Retired place) = codes "retired"
text_of (OutOfOrder place) = codes "out of order"
text_of (OutOfRange code) = codes "out of range"
text_of Total = codes "total"
text_of Misfit = codes "misfit"
text_of Unsummed = codes "unsummed"
text_of EmptySystem = codes "empty system"
text_of Wide = codes "wide"
text_of Unbalanced = codes "unbalanced"
text_of NoMixture = codes "no mixture"
text_of NoSystem = codes "no system"
text_of ShortBlank = codes "short blank"
text_of MoleTotal = codes "mole total"
text_of TooFew = codes "too few"
text_of Share = codes "share"
text_of HydrogenInMoles = codes "hydrogen in moles"

-- the refusal of a number from 1 to 18, with what it carries
abbrev pub refusal_by : ℕ → ℕ → Refusal
refusal_by number carried =
    if number == torn_refusal then Torn else
    if number == unknown_refusal then Unknown carried else
    if number == retired_refusal then Retired carried else
    if number == out_of_order_refusal then OutOfOrder carried else
    if number == out_of_range_refusal then OutOfRange carried else
    if number == total_refusal then Total else
    if number == misfit_refusal then Misfit else
    if number == unsummed_refusal then Unsummed else
    if number == empty_system_refusal then EmptySystem else
    if number == wide_refusal then Wide else
    if number == unbalanced_refusal then Unbalanced else
    if number == no_mixture_refusal then NoMixture else
    if number == no_system_refusal then NoSystem else
    if number == short_blank_refusal then ShortBlank else
    if number == mole_sum_refusal then MoleTotal else
    if number == too_few_refusal then TooFew else
    if number == share_refusal then Share else
    HydrogenInMoles

-- of an answer: the refusal's number, 0 where there is none, and what it carries
abbrev pub number_in : {A : Type 0} → Result A Refusal → ℕ
number_in (Ok x) = 0
number_in (Err refusal) = number_of refusal

abbrev pub carried_in : {A : Type 0} → Result A Refusal → ℕ
carried_in (Ok x) = 0
carried_in (Err refusal) = carried_of refusal

-- the answer by its number, 0 for none
abbrev pub answer_by : {A : Type 0} → ℕ → ℕ → A → Result A Refusal
answer_by number carried x = if number == 0 then Ok x else Err (refusal_by number carried)

-- what a lent buffer then holds: what it is to hold of an answer, what it held of a refusal
abbrev pub or_old : {A B : Type 0} → Result A Refusal → (A → B) → B → B
or_old (Ok x) holds old = holds x
or_old (Err refusal) holds old = old
