use Rattle.std.proofs.Common.{◌^◌, ◌*ℤ◌, FitsSigned, to_z-of_z, arith, w64, lit<}
use mir.Syntax.{w128}
use Rattle.std.proofs.lemmas.Int.{ints, fits_signed_mul}
use Rattle.av_affine.proofs.Dots.{abs_product}
use Rattle.av_elim.proofs.eliminate.product.Goals as goal

pub returns-clause-value : goal.returns-clause-value
returns-clause-value c =
    let fa : FitsSigned w64 c.args.a = c.ranges.a in
    let fb : FitsSigned w64 c.args.b = c.ranges.b in
    let ga : FitsSigned w128 c.args.a = omega (arith, ints) in
    let gb : FitsSigned w128 c.args.b = omega (arith, ints) in
    let fp : FitsSigned w128 (c.args.a *ℤ c.args.b) = fits_signed_mul w128 c.args.a c.args.b (2 ^ 43) (2 ^ 53) c.requires.first c.requires.second (lit< tt) in
    simp to_z-of_z

pub returns-clause-small : goal.returns-clause-small
returns-clause-small c =
    let fa : FitsSigned w64 c.args.a = c.ranges.a in
    let fb : FitsSigned w64 c.args.b = c.ranges.b in
    let ga : FitsSigned w128 c.args.a = omega (arith, ints) in
    let gb : FitsSigned w128 c.args.b = omega (arith, ints) in
    let fp : FitsSigned w128 (c.args.a *ℤ c.args.b) = fits_signed_mul w128 c.args.a c.args.b (2 ^ 43) (2 ^ 53) c.requires.first c.requires.second (lit< tt) in
    simp to_z-of_z (abs_product c.args.a c.args.b (2 ^ 43) (2 ^ 53) c.requires.first c.requires.second)

pub returns-clause-coefficient : goal.returns-clause-coefficient
returns-clause-coefficient c = λ h.
    let fa : FitsSigned w64 c.args.a = c.ranges.a in
    let fb : FitsSigned w64 c.args.b = c.ranges.b in
    let ga : FitsSigned w128 c.args.a = omega (arith, ints) in
    let gb : FitsSigned w128 c.args.b = omega (arith, ints) in
    let fp : FitsSigned w128 (c.args.a *ℤ c.args.b) = fits_signed_mul w128 c.args.a c.args.b (2 ^ 43) (2 ^ 53) c.requires.first c.requires.second (lit< tt) in
    simp to_z-of_z (abs_product c.args.a c.args.b (2 ^ 43) (2 ^ 43) c.requires.first h)
