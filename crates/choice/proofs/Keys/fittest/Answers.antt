use Rattle.std.proofs.Common.{◌<◌, length, get_or, sym, ap, ◌∙◌, arith}
use Rattle.systems.specs.Systems.{has_of}
use Rattle.systems.specs.Choice.{candidates_for}
use Rattle.choice.proofs.Tables.{is_true}
use Rattle.choice.proofs.Keying.{Best-none, Best-more, Best-less, Best-lacks, best_all}
use Rattle.choice.proofs.Keys.fittest.Goals as goal
use Rattle.choice.proofs.Keys.fittest.Goals.{then-has+then-most-key, then-has+else-most-key, else-has}

pub loop-i-init : goal.loop-i-init
loop-i-init g c = Best-none _ _ _ c.requires

pub loop-i-preserved : goal.loop-i-preserved
loop-i-preserved g c =
    let o = c.candidates-system-items.ensures in
    let h : c.loop-i.i < length (candidates_for (is_true g.row.HYDROGEN)) =
    omega (arith, c.loop-i-test.true, ap length o) in
    let e = ap (λ systems. has_of (get_or systems c.loop-i.i 0) c.args.c) (sym o) ∙ sym c.has.ensures in
    elim c.if-has.branch [
      | then-has+then-most-key w ↦
          rw (w.most-is, w.fittest-is) (Best-more _ _ _ _ _ _ c.loop-i.invariant h (e ∙ w.if-has.true)
          w.if-most-key.true)
      | then-has+else-most-key w ↦
          rw (w.most-is, w.fittest-is) (Best-less _ _ _ _ _ _ c.loop-i.invariant h (e ∙ w.if-has.true)
          w.if-most-key.false)
      | else-has w ↦
          rw (w.most-is, w.fittest-is) (Best-lacks _ _ _ _ _ _ c.loop-i.invariant h (e ∙ w.if-has.false))
    ]

pub returns-clause-fittest : goal.returns-clause-fittest
returns-clause-fittest g c =
    best_all _ _ _ _ _ _ c.loop-i.invariant
    (omega (arith, c.loop-i-test.false, ap length c.candidates-system-items.ensures))
