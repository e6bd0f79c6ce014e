use Rattle.std.proofs.Common.{rules, ◌≡◌, ◌∙◌, ◌<◌, length, arith, w64, pos, FitsSigned, get_or, add-one, to_z, of_z, to_z-of_z}
use Rattle.std.specs.Int.{w128}
use Rattle.std.proofs.lemmas.Int.{ints}
use Rattle.av_affine.proofs.Dots.{dot_more, dot_whole}
use Rattle.av_affine.proofs.inner_product.dot.Goals as goal

pub overflow_add-sum : goal.overflow_add-sum
overflow_add-sum c =
    let r = c.product-term.result in
    let p = c.product-term.ensures.small in
    let s = c.loop-k.invariant.small in
    let f : FitsSigned w128 r = omega (arith, ints, p) in
    let e : to_z w128 (of_z w128 r) ≡ r = simp to_z-of_z in
    rw e (omega (arith, ints, p, s, c.loop-k-test.true, c.min-count.ensures, c.requires.fits))

pub loop-k-preserved : goal.loop-k-preserved
loop-k-preserved c =
    let row = c.args.row.now in
    let z = c.args.numbers.now in
    let k = c.loop-k.k in
    let a = get_or row k (pos 0) in
    let x = get_or z k (pos 0) in
    let r = c.product-term.result in
    let p = c.product-term.ensures.small in
    let s = c.loop-k.invariant.small in
    let f : FitsSigned w128 r = omega (arith, ints, p) in
    let g : FitsSigned w64 a = search rules in
    let h : FitsSigned w64 x = search rules in
    let e = simp to_z-of_z at c.product-term.ensures.value in
    let t : k < length row = omega (arith, c.loop-k-test.true, c.min-count.ensures) in
    let u : k < length z = omega (arith, c.loop-k-test.true, c.min-count.ensures) in
    let m = dot_more row z k (pos 0) (pos 0) t u in
    record {
      so_far = rw add-one (omega (arith, ints, m, e, p, s, c.requires.fits, u));
      small = omega (arith, ints, p, s, c.requires.fits, u);
    }

pub returns-clause-value : goal.returns-clause-value
returns-clause-value c = c.loop-k.invariant.so_far ∙ dot_whole c.args.row.now c.args.numbers.now c.loop-k.k (omega (arith, c.loop-k-test.false, c.min-count.ensures))
