-- `ternary::ratio::Ratio::share` meets its contract. Assumes nothing.
use native.Mathlib.Omega.{arith}
use Rattle.ternary.proofs.Estimate.{high_fits}
use Rattle.ternary.proofs.Estimate.{rest_there}
use Rattle.ternary.proofs.Estimate.{z_le, is_exact, is_less, is_more}
use Rattle.ternary.proofs.Signs.{size_le, share_is}
use Rattle.ternary.proofs.ratio.Ratio.share.Goals as goal

pub overflow_mul-estimate : goal.overflow_mul-estimate
overflow_mul-estimate c =
    high_fits _ (size_le c.args.a c.ranges.a c.requires.1) c.args.self.digits

pub returns-then-estimate-x-le-HIGH : goal.returns-then-estimate-x-le-HIGH
returns-then-estimate-x-le-HIGH c =
    let x≤ = size_le c.args.a c.ranges.a c.requires.1 in
    share_is c.args.a _ c.args.self.n c.args.self.d c.ranges.a (omega (arith, z_le _ x≤ c.args.self.digits))
    (is_exact _ x≤ c.args.self.digits c.if-estimate-x-le-HIGH.true)

pub overflow_sub-rest : goal.overflow_sub-rest
overflow_sub-rest c =
    rest_there _ (size_le c.args.a c.ranges.a c.requires.1) c.args.self.digits

pub returns-then-rest-self : goal.returns-then-rest-self
returns-then-rest-self c =
    let x≤ = size_le c.args.a c.ranges.a c.requires.1 in
    share_is c.args.a _ c.args.self.n c.args.self.d c.ranges.a (omega (arith, z_le _ x≤ c.args.self.digits))
    (is_less _ x≤ c.args.self.digits (omega arith))

pub returns-else-rest-self : goal.returns-else-rest-self
returns-else-rest-self c =
    let x≤ = size_le c.args.a c.ranges.a c.requires.1 in
    share_is c.args.a _ c.args.self.n c.args.self.d c.ranges.a (omega (arith, z_le _ x≤ c.args.self.digits))
    (is_more _ x≤ c.args.self.digits (omega arith))
