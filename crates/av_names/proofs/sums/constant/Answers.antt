use Rattle.std.proofs.Common.{◌^◌, ◌<◌, ◌+ℤ◌, FitsSigned, to_z-of_z, arith}
use mir.Syntax.{w128}
use Rattle.std.proofs.lemmas.Int.{fits_signed_from_abs}
use Rattle.av_names.specs.inner.Sums.{sizes_in}
use Rattle.av_names.proofs.TermSums.{parts_fit, parts_small, part_more}
use Rattle.av_names.proofs.sums.constant.Goals as goal

pub overflow_add-sum : goal.overflow_add-sum
overflow_add-sum c =
    let sum = c.loop-term.sum in
    let same = c.loop-term.sum-is in
    let so_far_small = simp same at c.loop-term.invariant.small in
    let i = c.loop-term.term-index in
    let r = c.fixed-part.result in
    let small = c.fixed-part.ensures.small in
    let few : i < 2 ^ 32 = omega (arith, c.requires.terms.0, c.loop-term-test.true) in
    let fits_part : FitsSigned w128 r = fits_signed_from_abs w128 r (omega (arith, small)) in
    let fits_sum : FitsSigned w128 sum = fits_signed_from_abs w128 sum (omega (arith, few, so_far_small)) in
    simp (to_z-of_z, same) (parts_fit sum r i few so_far_small small)

pub loop-term-preserved : goal.loop-term-preserved
loop-term-preserved c =
    let terms = c.args.terms.now in
    let sum = c.loop-term.sum in
    let same = c.loop-term.sum-is in
    let so_far_small = simp same at c.loop-term.invariant.small in
    let i = c.loop-term.term-index in
    let t = c.term-item.result in
    let r = c.fixed-part.result in
    let small = c.fixed-part.ensures.small in
    let few : i < 2 ^ 32 = omega (arith, c.requires.terms.0, c.loop-term-test.true) in
    let fits_part : FitsSigned w128 r = fits_signed_from_abs w128 r (omega (arith, small)) in
    let fits_sum : FitsSigned w128 sum = fits_signed_from_abs w128 sum (omega (arith, few, so_far_small)) in
    let fits : FitsSigned w128 (sum +ℤ r) = parts_fit sum r i few so_far_small small in
    record {
      so_far = simp (to_z-of_z, same) (part_more (sizes_in c.args.sizes.now) c.args.names.now terms i t sum r c.loop-term-test.true c.term-item.is c.fixed-part.ensures.value (simp same at c.loop-term.invariant.so_far));
      small = simp (to_z-of_z, same) (parts_small sum r i so_far_small small);
    }
