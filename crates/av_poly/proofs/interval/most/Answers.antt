use Rattle.std.proofs.Common.{rules, ◌+ℤ◌, arith, ℤ, pos, ◌≤ℤ◌, ◌*ℤ◌, get_or, FitsSigned, to_z-of_z, w64, refl}
use mir.Syntax.{w128}
use Rattle.std.proofs.lemmas.Int.{ints, fits_signed_from_abs}
use Rattle.av_affine.proofs.Dots.{dot_all}
use Rattle.av_poly.proofs.Intervals.{most_more}
use Rattle.av_poly.proofs.interval.most.Goals as goal

pub loop-k-preserved : goal.loop-k-preserved
loop-k-preserved c =
    let k = c.loop-k.k in
    let coef = c.args.coef.now in
    let low = c.args.low.now in
    let high = c.args.high.now in
    let sum = c.loop-k.sum in
    let term = c.most_product-term.result in
    let small = c.loop-k.invariant.small in
    let e = c.loop-k.sum-is in
    let fl : FitsSigned w64 (get_or low k (pos 0)) = search rules in
    let fh : FitsSigned w64 (get_or high k (pos 0)) = search rules in
    let fc : FitsSigned w64 (get_or coef k (pos 0)) = search rules in
    let ft : FitsSigned w128 term = search rules in
    let fs : FitsSigned w128 (sum +ℤ term) = fits_signed_from_abs w128 (sum +ℤ term) (omega (arith, ints, small, e, c.most_product-term.ensures.small, c.requires.few)) in
    let most : (x : ℤ) → get_or low k (pos 0) ≤ℤ x → x ≤ℤ get_or high k (pos 0) → (get_or coef k (pos 0) *ℤ x) ≤ℤ term = simp to_z-of_z at c.most_product-term.ensures.most in
    record {
      so_far = λ z n b. simp (to_z-of_z, e) (most_more coef low high z k sum term (omega (arith, n)) (omega (arith, c.requires.fits)) b (simp e at (c.loop-k.invariant.so_far z n b)) most);
      small = simp (to_z-of_z, e) (omega (arith, ints, small, e, c.most_product-term.ensures.small));
    }

pub returns-clause-most : goal.returns-clause-most
returns-clause-most c = λ z n b.
    let s = c.loop-k.invariant.so_far z n b in
    let d = dot_all c.args.coef.now z c.loop-k.k (omega (arith, n)) (omega (arith, n, c.requires.fits)) refl in
    omega (arith, ints, s, d)
