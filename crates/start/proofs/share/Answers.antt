-- `start::share` meets its contract. Assumes nothing.
use Rattle.std.proofs.Common.{◌≡◌, ◌≤◌, ◌∙◌, ap, arith, rules}
use Prim.Native.Nat.{max, ◌/◌, ◌%◌}
use Rattle.systems.specs.Choice.{one_if}
use Rattle.split.specs.Start.{sharers_of}
use Rattle.start.specs.Inner.Column.{part_of}
use Rattle.start.proofs.Shares.{sharers_none, sharers_more, one_most, column_none, column_more, shares_fit, shared_is}
use Rattle.start.proofs.share.Goals as goal

pub loop-s-init : goal.loop-s-init
loop-s-init c = (sharers_none _ _, omega arith, column_none _ _ _ _ _)

pub part-requires : goal.part-requires
part-requires c =
    let some : 1 ≤ c.max-among.result = search rules in
    omega (arith, shares_fit c.args.parts c.max-among.result some)

pub loop-s-preserved : goal.loop-s-preserved
loop-s-preserved c =
    let is : c.from-rank.result ≡ one_if c.has-shares.result = search rules in
    let few : one_if c.has-shares.result ≤ 1 = one_most c.has-shares.result in
    let so = c.loop-s.invariant in (
      sharers_more _ _ _ _ _ so.0 (is ∙ ap one_if c.has-shares.ensures),
      omega arith,
      column_more _ _ _ _ _ _ _ _ _ so.0
          (c.part.ensures
          ∙ ap (λ b. part_of (one_if b) (c.args.parts / c.max-among.result) (c.args.parts % c.max-among.result) c.loop-s.rank)
          c.has-shares.ensures)
          so.2,
    )

pub returns : goal.returns
returns c =
    let end : c.loop-s.s ≡ c.args.rows = omega arith in
    let among : c.max-among.result ≡ max 1 (sharers_of c.args.systems.now c.args.c c.args.rows) = search rules in
    shared_is _ _ _ _ _ _ _ among (rw end at c.loop-s.invariant.2)
