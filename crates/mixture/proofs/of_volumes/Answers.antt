-- `mixture::of_volumes` meets its contract. Assumes nothing.
use mathlib.Core.Path.{sym, ap, ap₂, ◌∙◌}
use native.Mathlib.Omega.{arith}
use Rattle.analysis.specs.Check.{total_of}
use Rattle.analysis.proofs.Laws.Amounts.{volume_at}
use Rattle.mixture.specs.Scaling.{scaled_of}
use Rattle.mixture.specs.Inert.{methane_share}
use Rattle.mixture.proofs.Totals.{total_is}
use Rattle.mixture.proofs.of_volumes.Goals as goal

pub scale-requires : goal.scale-requires
scale-requires c =
    let e = total_is c.args.analysis.amounts _ _ c.tenths-tenths.ensures.0 c.sum-total.ensures.0 in
    (c.tenths-tenths.ensures.1, e ∙ sym (ap total_of c.tenths-tenths.ensures.0), omega (arith, e, c.requires))

pub methane_share-requires : goal.methane_share-requires
methane_share-requires c =
    let e = total_is c.args.analysis.amounts _ _ c.tenths-tenths.ensures.0 c.sum-total.ensures.0 in
    (omega (arith, e, c.requires), c.sum-total.ensures.1)

pub returns : goal.returns
returns c =
    let vs = c.args.analysis.amounts in
    let e = total_is vs _ _ c.tenths-tenths.ensures.0 c.sum-total.ensures.0 in
    let mixed = c.scale.ensures ∙ ap scaled_of c.tenths-tenths.ensures.0 in
    let share = c.methane_share.ensures.0 ∙ ap₂ methane_share e (volume_at vs 11) in
    λ i. record { mixture = record { amounts = mixed i }; inert = share i }
