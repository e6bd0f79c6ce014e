use Rattle.std.proofs.Common.{◌^◌, ◌<◌, ◌+ℤ◌, FitsSigned, to_z-of_z, arith}
use mir.Syntax.{w128}
use Rattle.std.proofs.lemmas.Int.{fits_signed_from_abs}
use Rattle.av_names.proofs.TermSums.{factor_small, factors_fit, factors_small, factor_more}
use Rattle.av_names.proofs.sums.coefficient.Goals as goal

pub overflow_add-sum : goal.overflow_add-sum
overflow_add-sum c =
    let sum = c.loop-term.sum in
    let same = c.loop-term.sum-is in
    let so_far_small = simp same at c.loop-term.invariant.small in
    let i = c.loop-term.term-index in
    let r = c.factor_of-factor.result in
    let small = factor_small c.args.terms.now c.args.name.now i c.term-item.result r c.requires.1 c.loop-term-test.true c.term-item.is c.factor_of-factor.ensures in
    let few : i < 2 ^ 32 = omega (arith, c.requires.0, c.loop-term-test.true) in
    let fits_factor : FitsSigned w128 r = fits_signed_from_abs w128 r (omega (arith, small)) in
    let fits_sum : FitsSigned w128 sum = fits_signed_from_abs w128 sum (omega (arith, few, so_far_small)) in
    simp (to_z-of_z, same) (factors_fit sum r i few so_far_small small)

pub loop-term-preserved : goal.loop-term-preserved
loop-term-preserved c =
    let terms = c.args.terms.now in
    let name = c.args.name.now in
    let sum = c.loop-term.sum in
    let same = c.loop-term.sum-is in
    let so_far_small = simp same at c.loop-term.invariant.small in
    let i = c.loop-term.term-index in
    let t = c.term-item.result in
    let r = c.factor_of-factor.result in
    let small = factor_small terms name i t r c.requires.1 c.loop-term-test.true c.term-item.is c.factor_of-factor.ensures in
    let few : i < 2 ^ 32 = omega (arith, c.requires.0, c.loop-term-test.true) in
    let fits_factor : FitsSigned w128 r = fits_signed_from_abs w128 r (omega (arith, small)) in
    let fits_sum : FitsSigned w128 sum = fits_signed_from_abs w128 sum (omega (arith, few, so_far_small)) in
    let fits : FitsSigned w128 (sum +ℤ r) = factors_fit sum r i few so_far_small small in
    record {
      so_far = simp (to_z-of_z, same) (factor_more terms name i t sum r c.loop-term-test.true c.term-item.is c.factor_of-factor.ensures (simp same at c.loop-term.invariant.so_far));
      small = simp (to_z-of_z, same) (factors_small sum r i so_far_small small);
    }
