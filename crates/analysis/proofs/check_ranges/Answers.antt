-- `analysis::check_ranges` meets its contract. Assumes nothing.
use Rattle.std.proofs.lemmas.List.{length-map}
use Rattle.analysis.proofs.Faults.{some_at_fault, none_at_fault}
use Rattle.analysis.proofs.check_ranges.Goals as goal

pub returns-then-code-amounts : goal.returns-then-code-amounts
returns-then-code-amounts g c =
    some_at_fault _ _ _ (length-map _ _) c.fault-code.ensures c.if-code-amounts.true

pub returns : goal.returns
returns g c = none_at_fault _ _ _ (length-map _ _) c.fault-code.ensures c.if-code-amounts.false
