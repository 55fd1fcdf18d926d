use Rattle.std.proofs.Common.{◌<◌, length, get_or, ap, arith}
use Rattle.systems.specs.Choice.{candidates_for}
use Rattle.choice.proofs.Tables.{is_true}
use Rattle.choice.proofs.Listing.{Lists-none, Lists-more, Lists-same, Lists-all}
use Rattle.choice.proofs.Keys.choice.Goals as goal
use Rattle.choice.proofs.Keys.choice.Goals.{then-self-i-eq0, else-self-i-eq0}

pub loop-i-init : goal.loop-i-init
loop-i-init g c = (omega arith, Lists-none _ _)

pub loop-i-preserved : goal.loop-i-preserved
loop-i-preserved g c =
    let o = c.candidates-system-items.ensures in
    let h : c.loop-i.i < length (candidates_for (is_true g.row.HYDROGEN)) =
    omega (arith, c.loop-i-test.true, ap length o) in
    elim c.if-self-i-eq0.branch [
      | then-self-i-eq0 w ↦
          rw w.choice-is (
            omega (arith, c.loop-i.invariant.0),
            Lists-more _ _ _ _ _ c.loop-i.invariant.1 h _
                (ap (λ systems. get_or systems c.loop-i.i 0) o) w.if-self-i-eq0.true,
          )
      | else-self-i-eq0 w ↦
          rw w.choice-is (
            omega (arith, c.loop-i.invariant.0),
            Lists-same _ _ _ _ _ c.loop-i.invariant.1 h w.if-self-i-eq0.false,
          )
    ]

pub returns : goal.returns
returns g c fit marks d =
    Lists-all _ _ _ _ _ c.loop-i.invariant.1
    (omega (arith, c.loop-i-test.false, ap length c.candidates-system-items.ensures)) fit marks d
