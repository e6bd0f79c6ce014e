use Rattle.std.proofs.Common.{rules, arith, FitsSigned, to_z-of_z, w64}
use mir.Syntax.{w128}
use Rattle.std.proofs.lemmas.Int.{ints, clamps}
use Rattle.av_poly.proofs.Intervals.{most_between}
use Rattle.av_poly.proofs.interval.most_product.Goals as goal

pub returns : goal.returns
returns c =
    let a : FitsSigned w64 c.args.coef = c.ranges.coef in
    let b : FitsSigned w64 c.args.low = c.ranges.low in
    let d : FitsSigned w64 c.args.high = c.ranges.high in
    let f : FitsSigned w128 c.product-first.result = search rules in
    let g : FitsSigned w128 c.product-last.result = search rules in
    let h : FitsSigned w128 c.max.result = search rules in
    let m = simp to_z-of_z at c.max.ensures.value in
    let i = simp to_z-of_z at c.product-first.ensures.value in
    let j = simp to_z-of_z at c.product-last.ensures.value in
    record {
      most = λ x p q. simp to_z-of_z (most_between c.args.coef c.args.low c.args.high x _ _ _ i j m p q);
      small = simp to_z-of_z (omega (arith, ints, clamps, m, c.product-first.ensures.small, c.product-last.ensures.small));
    }
