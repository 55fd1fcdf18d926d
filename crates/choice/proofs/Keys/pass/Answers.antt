use Rattle.std.proofs.Common.{refl, arith}
use Rattle.choice.proofs.Listing.{Turns-none, Turns-next, Turns-over, Turns-all}
use Rattle.choice.proofs.Keys.pass.Goals as goal
use Rattle.choice.proofs.Keys.pass.Goals.{then-present-c-eq1, else-present-c-eq1}

pub loop-c-init : goal.loop-c-init
loop-c-init g c = Turns-none _ _ _ _

pub loop-c-preserved : goal.loop-c-preserved
loop-c-preserved g c =
    elim c.if-present-c-eq1.branch [
      | then-present-c-eq1 w ↦
          rw w.self-is (Turns-next _ _ _ _ _ _ _ _ c.loop-c.invariant refl w.if-present-c-eq1.true w.take.ensures)
      | else-present-c-eq1 w ↦
          rw w.self-is (Turns-over _ _ _ _ _ _ _ c.loop-c.invariant refl w.if-present-c-eq1.false)
    ]

pub returns : goal.returns
returns g c = Turns-all _ _ _ _ _ _ c.loop-c.invariant (omega (arith, c.loop-c-test.false, c.loop-c.auto.c-index-end))
