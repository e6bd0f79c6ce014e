use Rattle.std.proofs.Common.{rules, ◌^◌, arith, pos, ◌-ℤ◌, FitsSigned, to_z-of_z, w64}
use mir.Syntax.{w128}
use Rattle.std.proofs.lemmas.Int.{ints, clamps, fits_signed_from_abs}
use Rattle.std.proofs.lemmas.Grind.{common_steps}
use Rattle.av_poly.proofs.Intervals.{above_floor, below_floor, floor_most, is_positive, is_negative}
use Rattle.av_poly.proofs.interval.restricted.Goals as goal

pub returns-then-factor-gt0-clause-keeps : goal.returns-then-factor-gt0-clause-keeps
returns-then-factor-gt0-clause-keeps c =
    let rest = c.args.rest in
    let coef = c.args.coef in
    let floor = c.div_euclid-floor.result in
    let f : FitsSigned w128 rest = search rules in
    let g : FitsSigned w64 coef = search rules in
    let h : FitsSigned w128 coef = fits_signed_from_abs w128 coef (omega (arith, c.requires.coef)) in
    let i : FitsSigned w128 floor = search rules in
    let j : FitsSigned w128 c.args.span.low = search rules in
    let k : FitsSigned w128 c.args.span.high = search rules in
    let n : FitsSigned w128 c.max.result = search rules in
    let e = simp to_z-of_z at c.div_euclid-floor.ensures in
    let t = is_positive coef (simp to_z-of_z at c.if-factor-gt0.true) in
    let most = floor_most rest coef (2 ^ 70) t c.requires.rest in
    let o : FitsSigned w128 (pos 0 -ℤ floor) = fits_signed_from_abs w128 (pos 0 -ℤ floor) (omega (arith, ints, most, e)) in
    let m = simp to_z-of_z at c.max.ensures.value in
    λ x p l q. let a = above_floor coef x rest floor t e p in simp to_z-of_z (omega (arith, ints, clamps, m, l, a), q)

pub returns-then-factor-gt0-clause-low : goal.returns-then-factor-gt0-clause-low
returns-then-factor-gt0-clause-low c =
    let rest = c.args.rest in
    let coef = c.args.coef in
    let floor = c.div_euclid-floor.result in
    let f : FitsSigned w128 rest = search rules in
    let g : FitsSigned w64 coef = search rules in
    let h : FitsSigned w128 coef = fits_signed_from_abs w128 coef (omega (arith, c.requires.coef)) in
    let i : FitsSigned w128 floor = search rules in
    let j : FitsSigned w128 c.args.span.low = search rules in
    let n : FitsSigned w128 c.max.result = search rules in
    let e = simp to_z-of_z at c.div_euclid-floor.ensures in
    let t = is_positive coef (simp to_z-of_z at c.if-factor-gt0.true) in
    let most = floor_most rest coef (2 ^ 70) t c.requires.rest in
    let o : FitsSigned w128 (pos 0 -ℤ floor) = fits_signed_from_abs w128 (pos 0 -ℤ floor) (omega (arith, ints, most, e)) in
    let m = simp to_z-of_z at c.max.ensures.value in
    simp to_z-of_z (omega (arith, ints, clamps, m, most, e, c.requires.low))

pub returns-then-factor-lt0-clause-keeps : goal.returns-then-factor-lt0-clause-keeps
returns-then-factor-lt0-clause-keeps c =
    let rest = c.args.rest in
    let coef = c.args.coef in
    let floor = c.div_euclid-floor-then-factor-lt0.result in
    let f : FitsSigned w128 rest = search rules in
    let g : FitsSigned w64 coef = search rules in
    let h : FitsSigned w128 coef = fits_signed_from_abs w128 coef (omega (arith, c.requires.coef)) in
    let i : FitsSigned w128 floor = search rules in
    let j : FitsSigned w128 c.args.span.low = search rules in
    let k : FitsSigned w128 c.args.span.high = search rules in
    let n : FitsSigned w128 c.min.result = search rules in
    let o : FitsSigned w128 (pos 0 -ℤ coef) = fits_signed_from_abs w128 (pos 0 -ℤ coef) (omega (arith, ints, c.requires.coef)) in
    let e = simp to_z-of_z at c.div_euclid-floor-then-factor-lt0.ensures in
    let t = is_negative coef (simp to_z-of_z at c.if-factor-lt0.true) in
    let m = simp to_z-of_z at c.min.ensures.value in
    λ x p l q. let a = below_floor coef x rest floor t e p in simp to_z-of_z (l, omega (arith, ints, clamps, m, q, a))

pub returns-then-rest-lt0-clause-keeps : goal.returns-then-rest-lt0-clause-keeps
returns-then-rest-lt0-clause-keeps c = grind (arith, common_steps)

pub returns-then-rest-lt0-clause-low : goal.returns-then-rest-lt0-clause-low
returns-then-rest-lt0-clause-low c = grind (arith, common_steps)

pub returns-then-rest-lt0-clause-below : goal.returns-then-rest-lt0-clause-below
returns-then-rest-lt0-clause-below c = grind (arith, common_steps)

pub returns-then-rest-lt0-clause-above : goal.returns-then-rest-lt0-clause-above
returns-then-rest-lt0-clause-above c = grind (arith, common_steps)

pub overflow_sub-floor : goal.overflow_sub-floor
overflow_sub-floor c = grind (arith, common_steps)

pub returns-then-factor-gt0-clause-below : goal.returns-then-factor-gt0-clause-below
returns-then-factor-gt0-clause-below c = grind (arith, common_steps)

pub returns-then-factor-lt0-clause-low : goal.returns-then-factor-lt0-clause-low
returns-then-factor-lt0-clause-low c = grind (arith, common_steps)

pub returns-then-factor-gt0-clause-above : goal.returns-then-factor-gt0-clause-above
returns-then-factor-gt0-clause-above c = grind (arith, common_steps)

pub returns-then-factor-lt0-clause-above : goal.returns-then-factor-lt0-clause-above
returns-then-factor-lt0-clause-above c = grind (arith, common_steps)
