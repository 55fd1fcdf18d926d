-- The words for the first code out of range of moles (document 02, Four and Seven). Assumes nothing.
use Rattle.std.specs.Prelude.{◌≡◌, List, ℕ, get_or}
use Rattle.analysis.specs.Register.{hydrogen_code}
use Rattle.analysis.specs.Faults.{AtFault, Lowest}

-- moles without hydrogen, which 18 lets pass, with this code as the lowest at fault
abbrev pub OutOfRangeMoles : List ℕ → ℕ → Type 0
OutOfRangeMoles moles code = (get_or moles hydrogen_code 0 ≡ 0) × Lowest (AtFault moles) code
