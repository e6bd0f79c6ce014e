use Rattle.std.proofs.Common.{arith, rules, ap, ◌∙◌, ◌*ℤ◌, FitsSigned, to_z-of_z, w64}
use Rattle.std.proofs.lemmas.Int.{ints}
use Rattle.av_affine.proofs.Dots.{abs_product}
use Rattle.av_affine.proofs.cells.determinant.Goals as goal

pub returns-clause-value : goal.returns-clause-value
returns-clause-value c =
    let fa : FitsSigned w64 c.args.a = c.ranges.a in
    let fb : FitsSigned w64 c.args.b = c.ranges.b in
    let fs : FitsSigned w64 c.signum.result = search rules in
    let ft : FitsSigned w64 c.signum-2.result = search rules in
    let s = simp to_z-of_z at c.signum.ensures.value in
    let t = simp to_z-of_z at c.signum-2.ensures.value in
    let d = simp to_z-of_z at c.product.ensures.value in
    let e = simp to_z-of_z at c.product-2.ensures.value in
    omega (arith, ints, d ∙ ap (λ x. c.args.a *ℤ x) s, e ∙ ap (λ x. c.args.b *ℤ x) t, c.product.ensures.small, c.product-2.ensures.small)

pub returns-clause-small : goal.returns-clause-small
returns-clause-small c =
    let fa : FitsSigned w64 c.args.a = c.ranges.a in
    let fb : FitsSigned w64 c.args.b = c.ranges.b in
    let fs : FitsSigned w64 c.signum.result = search rules in
    let ft : FitsSigned w64 c.signum-2.result = search rules in
    let d = simp to_z-of_z at c.product.ensures.value in
    let e = simp to_z-of_z at c.product-2.ensures.value in
    let m = abs_product c.args.a c.signum.result 4 1 c.requires.first (omega (arith, ints)) in
    let n = abs_product c.args.b c.signum-2.result 4 1 c.requires.second (omega (arith, ints)) in
    omega (arith, ints, d, e, m, n)

pub overflow_sub-result : goal.overflow_sub-result
overflow_sub-result c =
    let f : FitsSigned w64 c.product.result = omega (arith, ints, c.product.ensures.small) in
    let g : FitsSigned w64 c.product-2.result = omega (arith, ints, c.product-2.ensures.small) in
    simp to_z-of_z (omega (arith, ints, c.product.ensures.small, c.product-2.ensures.small))
