use Rattle.std.proofs.Common.{rules, ◌≤◌, ◌^◌, ℤ, ◌-ℤ◌, FitsSigned, to_z-of_z, arith, w64}
use mir.Syntax.{w128}
use Rattle.std.specs.Int.RustNames.{unsigned_abs}
use Rattle.std.proofs.lemmas.Int.{ints, fits_signed_from_abs}
use Rattle.av_affine.proofs.Ring.{neg_times}
use Rattle.av_elim.proofs.eliminate.combined_number.Goals as goal

fits : (a b : ℤ) → unsigned_abs a ≤ 2 ^ 96 → unsigned_abs b ≤ 2 ^ 96 → FitsSigned w128 (a -ℤ b)
fits a b h k = fits_signed_from_abs w128 (a -ℤ b) (omega (arith, ints, h, k))

pub returns-clause-value : goal.returns-clause-value
returns-clause-value c =
    let a = c.product-left.result in
    let b = c.product-right.result in
    let f : FitsSigned w128 a = search rules in
    let g : FitsSigned w128 b = search rules in
    let f0 : FitsSigned w64 c.args.low = c.ranges.low in
    let f1 : FitsSigned w64 c.args.high = c.ranges.high in
    let f2 : FitsSigned w64 c.args.below = c.ranges.below in
    let f3 : FitsSigned w64 c.args.above = c.ranges.above in
    let h = fits a b c.product-left.ensures.small c.product-right.ensures.small in
    let d = simp to_z-of_z at c.product-left.ensures.value in
    let e = simp to_z-of_z at c.product-right.ensures.value in
    simp to_z-of_z (omega (arith, ints, neg_times c.args.below c.args.high, d, e))

pub returns-clause-small : goal.returns-clause-small
returns-clause-small c =
    let a = c.product-left.result in
    let b = c.product-right.result in
    let f : FitsSigned w128 a = search rules in
    let g : FitsSigned w128 b = search rules in
    let h = fits a b c.product-left.ensures.small c.product-right.ensures.small in
    simp to_z-of_z (omega (arith, ints, c.product-left.ensures.small, c.product-right.ensures.small))

pub returns-clause-coefficient : goal.returns-clause-coefficient
returns-clause-coefficient c = λ below above.
    let a = c.product-left.result in
    let b = c.product-right.result in
    let f : FitsSigned w128 a = search rules in
    let g : FitsSigned w128 b = search rules in
    let f2 : FitsSigned w64 c.args.below = c.ranges.below in
    let f3 : FitsSigned w64 c.args.above = c.ranges.above in
    let h = fits a b c.product-left.ensures.small c.product-right.ensures.small in
    let l = (simp to_z-of_z at c.product-left.ensures.coefficient) above in
    let r = (simp to_z-of_z at c.product-right.ensures.coefficient) below in
    simp to_z-of_z (omega (arith, ints, l, r))

pub overflow_sub-result : goal.overflow_sub-result
overflow_sub-result c =
    let a = c.product-left.result in
    let b = c.product-right.result in
    let f : FitsSigned w128 a = search rules in
    let g : FitsSigned w128 b = search rules in
    simp to_z-of_z (fits a b c.product-left.ensures.small c.product-right.ensures.small)
