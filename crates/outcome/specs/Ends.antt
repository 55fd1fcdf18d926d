-- The words for how an answer ends (document 01, "What is turned away"). Assumes nothing.
use Rattle.std.specs.Prelude.{◌≡◌, ◌⊎◌, ℕ, ◌≤◌}
use Rattle.refusal.specs.Register.{too_few_refusal}
use Rattle.split.specs.AnswerCases.{number_of, IsRated}
use Rattle.split.specs.declared.Answer.{Answer}
use Rattle.split.specs.declared.Answer.TheVariants.{Refused}

-- a rating, or a refusal with a number from `low` to `high`
abbrev pub RatedOr : ℕ → ℕ → Answer → Type 0
RatedOr low high x = IsRated x ⊎ ((low ≤ number_of x) × (number_of x ≤ high))

-- a rating, one of 7 to 11, or 16: the ends of what is in range
abbrev pub RatedOrFew : Answer → Type 0
RatedOrFew x = RatedOr 7 11 x ⊎ (x ≡ Refused too_few_refusal 0)
