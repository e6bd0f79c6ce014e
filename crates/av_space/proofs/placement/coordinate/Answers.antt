use Rattle.std.proofs.Common.{◌≡◌, ◌∙◌, ◌≤◌, ℤ, List, length, ap, arith, FitsSigned, to_z, of_z, to_z-of_z, w64}
use Rattle.std.specs.Int.{w128}
use Rattle.std.specs.Prelude.{unsigned_abs}
use Rattle.std.proofs.lemmas.Int.{ints}
use Rattle.av_affine.specs.Numbers.{dot, AtMost}
use Rattle.av_affine.proofs.Dots.{dot_most}
use Rattle.av_space.proofs.placement.coordinate.Goals as goal

most : (row z : List ℤ) (r : ℤ) → r ≡ dot row z → AtMost 1 row → AtMost 4095 z → length z ≤ 4 → unsigned_abs r ≤ 16380
most row z r e a b few = let m = dot_most row z 1 4095 a b in omega (arith, ap unsigned_abs e, m, few)

pub overflow_cast-result : goal.overflow_cast-result
overflow_cast-result c =
    let row = c.args.row.now in
    let z = c.args.z.now in
    let r = c.dot.result in
    let small = c.dot.ensures.small in
    let f : FitsSigned w128 r = omega (arith, ints, small) in
    let t : to_z w128 (of_z w128 r) ≡ r = simp to_z-of_z in
    let e : r ≡ dot row z = c.dot.ensures.value ∙ ap (λ (xs : List ℤ). dot xs c.as_slice-2.result.now) c.as_slice.ensures.value ∙ ap (dot row) c.as_slice-2.ensures.value in
    let m = most row z r e c.requires.row c.requires.small (let n = ap (λ (xs : List ℤ). length xs) c.as_slice-2.ensures.value in omega (arith, n, c.as_slice-2.ensures.fits)) in
    rw t (omega (arith, ints, m))

pub returns-clause-value : goal.returns-clause-value
returns-clause-value c =
    let row = c.args.row.now in
    let z = c.args.z.now in
    let r = c.dot.result in
    let small = c.dot.ensures.small in
    let f : FitsSigned w128 r = omega (arith, ints, small) in
    let t : to_z w128 (of_z w128 r) ≡ r = simp to_z-of_z in
    let e : r ≡ dot row z = c.dot.ensures.value ∙ ap (λ (xs : List ℤ). dot xs c.as_slice-2.result.now) c.as_slice.ensures.value ∙ ap (dot row) c.as_slice-2.ensures.value in
    let m = most row z r e c.requires.row c.requires.small (let n = ap (λ (xs : List ℤ). length xs) c.as_slice-2.ensures.value in omega (arith, n, c.as_slice-2.ensures.fits)) in
    let g : FitsSigned w64 r = omega (arith, ints, m) in
    let u : to_z w64 (of_z w64 r) ≡ r = simp to_z-of_z in
    rw t (u ∙ e)

pub returns-clause-small : goal.returns-clause-small
returns-clause-small c =
    let row = c.args.row.now in
    let z = c.args.z.now in
    let r = c.dot.result in
    let small = c.dot.ensures.small in
    let f : FitsSigned w128 r = omega (arith, ints, small) in
    let t : to_z w128 (of_z w128 r) ≡ r = simp to_z-of_z in
    let e : r ≡ dot row z = c.dot.ensures.value ∙ ap (λ (xs : List ℤ). dot xs c.as_slice-2.result.now) c.as_slice.ensures.value ∙ ap (dot row) c.as_slice-2.ensures.value in
    let m = most row z r e c.requires.row c.requires.small (let n = ap (λ (xs : List ℤ). length xs) c.as_slice-2.ensures.value in omega (arith, n, c.as_slice-2.ensures.fits)) in
    let g : FitsSigned w64 r = omega (arith, ints, m) in
    let u : to_z w64 (of_z w64 r) ≡ r = simp to_z-of_z in
    rw t (rw u m)
