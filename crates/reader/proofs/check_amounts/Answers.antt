-- `reader::check_amounts` meets its contract. Assumes nothing.
use Rattle.reader.proofs.Turns.{Looked-next, looked_zero, looked_all}
use Rattle.reader.proofs.Faults.{zero_found, checked_found}
use Rattle.reader.proofs.check_amounts.Goals as goal

pub returns-then-amount_at-eq0 : goal.returns-then-amount_at-eq0
returns-then-amount_at-eq0 c =
    zero_found _ _ c.requires.s_value _ c.requires.n_in_bounds.1 _ c.check-checked.ensures.value _
    (looked_zero _ _ _ c.loop-i.invariant c.loop-i-test.true _ c.amount_at.ensures c.if-amount_at-eq0.true)
    _ c.from.ensures _ c.lower.ensures

pub loop-i-preserved : goal.loop-i-preserved
loop-i-preserved c =
    Looked-next _ _ _ c.loop-i.invariant c.loop-i-test.true _ c.amount_at.ensures c.if-amount_at-eq0.false

pub returns : goal.returns
returns c =
    checked_found _ _ c.requires.s_value _ c.requires.n_in_bounds.1 _ c.check-checked.ensures.value
    (looked_all _ _ _ c.loop-i.invariant c.loop-i-test.false)
