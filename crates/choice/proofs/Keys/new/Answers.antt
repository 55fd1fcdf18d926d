use Rattle.std.proofs.Common.{length, ap, arith}
use Rattle.choice.proofs.Tables.{is_candidate}
use Rattle.choice.proofs.Keying.{Fresh-all}
use Rattle.choice.proofs.Keys.new.Goals as goal

pub key-requires-clause-candidate : goal.key-requires-clause-candidate
key-requires-clause-candidate g c =
    let o = c.candidates-system-items.ensures in
    rw o (is_candidate _ _ (omega (arith, c.loop-i-test.true, ap length o)))

pub returns : goal.returns
returns g c =
    Fresh-all _ _ _ _ c.loop-i.invariant
    (omega (arith, c.loop-i-test.false, ap length c.candidates-system-items.ensures))
