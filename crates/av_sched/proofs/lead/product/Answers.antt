use Rattle.std.proofs.Common.{◌^◌, ◌*ℤ◌, FitsSigned, to_z-of_z, w64, lit<, arith}
use Rattle.std.proofs.lemmas.Int.{fits_signed_mul}
use Rattle.std.proofs.lemmas.Grind.{common_steps}
use Rattle.av_affine.proofs.Dots.{abs_product}
use Rattle.av_sched.proofs.lead.product.Goals as goal

pub returns-clause-value : goal.returns-clause-value
returns-clause-value c =
    let fa : FitsSigned w64 c.args.a = c.ranges.a in
    let fb : FitsSigned w64 c.args.b = c.ranges.b in
    let fp : FitsSigned w64 (c.args.a *ℤ c.args.b) = fits_signed_mul w64 c.args.a c.args.b 4 (2 ^ 25) c.requires.first c.requires.second (lit< tt) in
    simp to_z-of_z

pub returns-clause-small : goal.returns-clause-small
returns-clause-small c =
    let fa : FitsSigned w64 c.args.a = c.ranges.a in
    let fb : FitsSigned w64 c.args.b = c.ranges.b in
    let fp : FitsSigned w64 (c.args.a *ℤ c.args.b) = fits_signed_mul w64 c.args.a c.args.b 4 (2 ^ 25) c.requires.first c.requires.second (lit< tt) in
    simp to_z-of_z (abs_product c.args.a c.args.b 4 (2 ^ 25) c.requires.first c.requires.second)

pub overflow_mul-result : goal.overflow_mul-result
overflow_mul-result c = grind (arith, common_steps)
