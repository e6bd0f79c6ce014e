use Rattle.std.proofs.Common.{arith, rules, FitsSigned, to_z-of_z, w64}
use Rattle.std.proofs.lemmas.Int.{ints}
use Rattle.av_affine.proofs.Dots.{abs_product}
use Rattle.av_affine.proofs.cells.turned.Goals as goal

pub returns-clause-small : goal.returns-clause-small
returns-clause-small c =
    let fx : FitsSigned w64 c.args.x = c.ranges.x in
    let fd : FitsSigned w64 c.determinant.result = search rules in
    let d = simp to_z-of_z at c.product.ensures.value in
    omega (arith, ints, d, abs_product c.determinant.result c.args.x 8 4 c.determinant.ensures.small c.requires.third)
