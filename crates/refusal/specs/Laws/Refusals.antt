-- The refusals as the code has them, against the register.
use Rattle.std.specs.Prelude.{◌≡◌, refl, ℕ, List, [], ◌∷◌, ◌==◌, if◌then◌else◌, codes}
use Rattle.refusal.specs.declared.Refusal.{Refusal}
use Rattle.refusal.specs.declared.Refusal.TheVariants.{Torn, Unknown, Retired, OutOfOrder, OutOfRange, Total, Misfit}
use Rattle.refusal.specs.declared.Refusal.TheVariants.{Unsummed, EmptySystem, Wide, Unbalanced, NoMixture, NoSystem}
use Rattle.refusal.specs.declared.Refusal.TheVariants.{ShortBlank, MoleTotal, TooFew, Share, HydrogenInMoles}
use Rattle.refusal.specs.Register.{Entry, register}
use Rattle.refusal.specs.Refusal.{number_of, carried_of, text_of, refusal_by}

-- a refusal is that of its number and what it carries
pub back_by_number : (refusal : Refusal) → refusal_by (number_of refusal) (carried_of refusal) ≡ refusal
back_by_number Torn = refl
back_by_number (Unknown place) = refl
back_by_number (Retired place) = refl
back_by_number (OutOfOrder place) = refl
back_by_number (OutOfRange code) = refl
back_by_number Total = refl
back_by_number Misfit = refl
back_by_number Unsummed = refl
back_by_number EmptySystem = refl
back_by_number Wide = refl
back_by_number Unbalanced = refl
back_by_number NoMixture = refl
back_by_number NoSystem = refl
back_by_number ShortBlank = refl
back_by_number MoleTotal = refl
back_by_number TooFew = refl
back_by_number Share = refl
back_by_number HydrogenInMoles = refl

-- the word that the register has for a number
abbrev pub word_by : ℕ → List Entry → List ℕ
word_by number [] = []
word_by number (e ∷ es) = if number == e.number then codes e.word else word_by number es

-- its text is the register's word
pub text_is_word : (refusal : Refusal) → text_of refusal ≡ word_by (number_of refusal) register
text_is_word Torn = refl
text_is_word (Unknown place) = refl
text_is_word (Retired place) = refl
text_is_word (OutOfOrder place) = refl
text_is_word (OutOfRange code) = refl
text_is_word Total = refl
text_is_word Misfit = refl
text_is_word Unsummed = refl
text_is_word EmptySystem = refl
text_is_word Wide = refl
text_is_word Unbalanced = refl
text_is_word NoMixture = refl
text_is_word NoSystem = refl
text_is_word ShortBlank = refl
text_is_word MoleTotal = refl
text_is_word TooFew = refl
text_is_word Share = refl
text_is_word HydrogenInMoles = refl
