use Rattle.std.proofs.Common.{◌^◌, ◌*ℤ◌, FitsSigned, to_z-of_z, w64, lit<, arith}
use mir.Syntax.{w128}
use Rattle.std.proofs.lemmas.Int.{fits_signed_from_abs, fits_signed_mul}
use Rattle.av_affine.proofs.Dots.{abs_product}
use Rattle.av_names.proofs.sums.product.Goals as goal

pub overflow_mul-result : goal.overflow_mul-result
overflow_mul-result c =
    let narrow : FitsSigned w64 c.args.value = c.ranges.value in
    let value : FitsSigned w128 c.args.value = fits_signed_from_abs w128 c.args.value (omega (arith, c.requires.value)) in
    let factor : FitsSigned w128 c.args.factor = c.ranges.factor in
    simp to_z-of_z (fits_signed_mul w128 c.args.factor c.args.value (2 ^ 64) (2 ^ 20) (omega (arith, c.requires.factor)) (omega (arith, c.requires.value)) (lit< tt))

pub returns-clause-value : goal.returns-clause-value
returns-clause-value c =
    let narrow : FitsSigned w64 c.args.value = c.ranges.value in
    let value : FitsSigned w128 c.args.value = fits_signed_from_abs w128 c.args.value (omega (arith, c.requires.value)) in
    let factor : FitsSigned w128 c.args.factor = c.ranges.factor in
    let product : FitsSigned w128 (c.args.factor *ℤ c.args.value) = fits_signed_mul w128 c.args.factor c.args.value (2 ^ 64) (2 ^ 20) (omega (arith, c.requires.factor)) (omega (arith, c.requires.value)) (lit< tt) in
    simp to_z-of_z

pub returns-clause-small : goal.returns-clause-small
returns-clause-small c =
    let narrow : FitsSigned w64 c.args.value = c.ranges.value in
    let value : FitsSigned w128 c.args.value = fits_signed_from_abs w128 c.args.value (omega (arith, c.requires.value)) in
    let factor : FitsSigned w128 c.args.factor = c.ranges.factor in
    let product : FitsSigned w128 (c.args.factor *ℤ c.args.value) = fits_signed_mul w128 c.args.factor c.args.value (2 ^ 64) (2 ^ 20) (omega (arith, c.requires.factor)) (omega (arith, c.requires.value)) (lit< tt) in
    simp to_z-of_z (abs_product c.args.factor c.args.value (2 ^ 64) (2 ^ 20) (omega (arith, c.requires.factor)) (omega (arith, c.requires.value)))
