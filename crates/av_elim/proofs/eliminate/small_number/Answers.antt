use Rattle.std.proofs.Common.{rules, ◌≤◌, ◌^◌, FitsSigned, to_z-of_z, arith, w64}
use mir.Syntax.{w128}
use Rattle.std.specs.Int.RustNames.{unsigned_abs}
use Rattle.std.proofs.lemmas.Int.{fits_signed_from_abs}
use Rattle.av_elim.proofs.Growth.{entry_size}
use Rattle.av_elim.proofs.eliminate.small_number.Goals as goal

pub overflow_cast-result : goal.overflow_cast-result
overflow_cast-result c =
    let x = c.combined_number.result in
    let f : FitsSigned w128 x = search rules in
    let f0 : FitsSigned w64 c.args.low = c.ranges.low in
    let f1 : FitsSigned w64 c.args.high = c.ranges.high in
    let f2 : FitsSigned w64 c.args.below = c.ranges.below in
    let f3 : FitsSigned w64 c.args.above = c.ranges.above in
    let e = simp to_z-of_z at c.combined_number.ensures.value in
    let s = entry_size c.args.low c.args.high c.args.below c.args.above (2 ^ 21) (2 ^ 31) c.requires.low c.requires.high c.requires.below c.requires.above in
    let m : unsigned_abs x ≤ 2 ^ 53 = rw e (omega (arith, s)) in
    simp to_z-of_z (fits_signed_from_abs w64 x (omega (arith, m)))

pub returns : goal.returns
returns c =
    let x = c.combined_number.result in
    let f : FitsSigned w128 x = search rules in
    let f0 : FitsSigned w64 c.args.low = c.ranges.low in
    let f1 : FitsSigned w64 c.args.high = c.ranges.high in
    let f2 : FitsSigned w64 c.args.below = c.ranges.below in
    let f3 : FitsSigned w64 c.args.above = c.ranges.above in
    let e = simp to_z-of_z at c.combined_number.ensures.value in
    let s = entry_size c.args.low c.args.high c.args.below c.args.above (2 ^ 21) (2 ^ 31) c.requires.low c.requires.high c.requires.below c.requires.above in
    let m : unsigned_abs x ≤ 2 ^ 53 = rw e (omega (arith, s)) in
    let g : FitsSigned w64 x = fits_signed_from_abs w64 x (omega (arith, m)) in
    simp to_z-of_z e
