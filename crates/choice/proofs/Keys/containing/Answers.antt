use Rattle.std.proofs.Common.{◌<◌, length, get_or, sym, ap, ◌∙◌, arith}
use Rattle.systems.specs.Systems.{has_of}
use Rattle.systems.specs.Choice.{candidates_for}
use Rattle.choice.proofs.Tables.{is_true}
use Rattle.choice.proofs.Keying.{Counted-none, Counted-more, Counted-open, Counted-lacks, counted_all}
use Rattle.choice.proofs.Keys.containing.Goals as goal
use Rattle.choice.proofs.Keys.containing.Goals.{then-has+then-self-i-eq0, then-has+else-self-i-eq0, else-has}

pub loop-i-init : goal.loop-i-init
loop-i-init g c = Counted-none _ _ _

pub loop-i-preserved : goal.loop-i-preserved
loop-i-preserved g c =
    let o = c.candidates-system-items.ensures in
    let h : c.loop-i.i < length (candidates_for (is_true g.row.HYDROGEN)) =
    omega (arith, c.loop-i-test.true, ap length o) in
    let e = ap (λ systems. has_of (get_or systems c.loop-i.i 0) c.args.c) (sym o) ∙ sym c.has.ensures in
    elim c.if-has.branch [
      | then-has+then-self-i-eq0 w ↦
          rw w.count-is (Counted-more _ _ _ _ _ c.loop-i.invariant h (e ∙ w.if-has.true) w.if-self-i-eq0.true)
      | then-has+else-self-i-eq0 w ↦
          rw w.count-is (Counted-open _ _ _ _ _ c.loop-i.invariant h (e ∙ w.if-has.true) w.if-self-i-eq0.false)
      | else-has w ↦ rw w.count-is (Counted-lacks _ _ _ _ _ c.loop-i.invariant h (e ∙ w.if-has.false))
    ]

pub returns : goal.returns
returns g c =
    counted_all _ _ _ _ _ c.loop-i.invariant
    (omega (arith, c.loop-i-test.false, ap length c.candidates-system-items.ensures))
