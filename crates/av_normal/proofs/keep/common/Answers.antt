use Rattle.std.proofs.Common.{◌≡◌, ◌≤◌, length, rules, get_or, pos, FitsSigned, to_z, of_z, to_z-of_z, arith}
use Rattle.std.specs.Int.{w128}
use Rattle.std.specs.Int.RustNames.{unsigned_abs}
use Rattle.av_normal.proofs.Reaches.{small_four, between_both, tight_same}
use Rattle.av_normal.proofs.keep.common.Goals as goal

pub lower-requires-clause-low : goal.lower-requires-clause-low
lower-requires-clause-low c =
    let x = get_or c.args.within.now.low 0 (pos 0) in
    let l : length c.args.within.now.low ≡ 4 = search rules in
    let f : FitsSigned w128 x = search rules in
    simp to_z-of_z (c.requires.low 0 (pos 0) (omega (arith, l)))

pub lower-requires-clause-high : goal.lower-requires-clause-high
lower-requires-clause-high c =
    let x = get_or c.args.within.now.high 0 (pos 0) in
    let l : length c.args.within.now.high ≡ 4 = search rules in
    let f : FitsSigned w128 x = search rules in
    simp to_z-of_z (c.requires.high 0 (pos 0) (omega (arith, l)))

pub lower-requires-2-clause-low : goal.lower-requires-2-clause-low
lower-requires-2-clause-low c =
    let x = get_or c.args.within.now.low 1 (pos 0) in
    let l : length c.args.within.now.low ≡ 4 = search rules in
    let f : FitsSigned w128 x = search rules in
    simp to_z-of_z (c.requires.low 1 (pos 0) (omega (arith, l)))

pub lower-requires-2-clause-high : goal.lower-requires-2-clause-high
lower-requires-2-clause-high c =
    let x = get_or c.args.within.now.high 1 (pos 0) in
    let l : length c.args.within.now.high ≡ 4 = search rules in
    let f : FitsSigned w128 x = search rules in
    simp to_z-of_z (c.requires.high 1 (pos 0) (omega (arith, l)))

pub lower-requires-3-clause-low : goal.lower-requires-3-clause-low
lower-requires-3-clause-low c =
    let x = get_or c.args.within.now.low 2 (pos 0) in
    let l : length c.args.within.now.low ≡ 4 = search rules in
    let f : FitsSigned w128 x = search rules in
    simp to_z-of_z (c.requires.low 2 (pos 0) (omega (arith, l)))

pub lower-requires-3-clause-high : goal.lower-requires-3-clause-high
lower-requires-3-clause-high c =
    let x = get_or c.args.within.now.high 2 (pos 0) in
    let l : length c.args.within.now.high ≡ 4 = search rules in
    let f : FitsSigned w128 x = search rules in
    simp to_z-of_z (c.requires.high 2 (pos 0) (omega (arith, l)))

pub lower-requires-4-clause-low : goal.lower-requires-4-clause-low
lower-requires-4-clause-low c =
    let x = get_or c.args.within.now.low 3 (pos 0) in
    let l : length c.args.within.now.low ≡ 4 = search rules in
    let f : FitsSigned w128 x = search rules in
    simp to_z-of_z (c.requires.low 3 (pos 0) (omega (arith, l)))

pub lower-requires-4-clause-high : goal.lower-requires-4-clause-high
lower-requires-4-clause-high c =
    let x = get_or c.args.within.now.high 3 (pos 0) in
    let l : length c.args.within.now.high ≡ 4 = search rules in
    let f : FitsSigned w128 x = search rules in
    simp to_z-of_z (c.requires.high 3 (pos 0) (omega (arith, l)))

pub upper-requires-clause-low : goal.upper-requires-clause-low
upper-requires-clause-low c =
    let x = get_or c.args.within.now.low 0 (pos 0) in
    let l : length c.args.within.now.low ≡ 4 = search rules in
    let f : FitsSigned w128 x = search rules in
    simp to_z-of_z (c.requires.low 0 (pos 0) (omega (arith, l)))

pub upper-requires-clause-high : goal.upper-requires-clause-high
upper-requires-clause-high c =
    let x = get_or c.args.within.now.high 0 (pos 0) in
    let l : length c.args.within.now.high ≡ 4 = search rules in
    let f : FitsSigned w128 x = search rules in
    simp to_z-of_z (c.requires.high 0 (pos 0) (omega (arith, l)))

pub upper-requires-2-clause-low : goal.upper-requires-2-clause-low
upper-requires-2-clause-low c =
    let x = get_or c.args.within.now.low 1 (pos 0) in
    let l : length c.args.within.now.low ≡ 4 = search rules in
    let f : FitsSigned w128 x = search rules in
    simp to_z-of_z (c.requires.low 1 (pos 0) (omega (arith, l)))

pub upper-requires-2-clause-high : goal.upper-requires-2-clause-high
upper-requires-2-clause-high c =
    let x = get_or c.args.within.now.high 1 (pos 0) in
    let l : length c.args.within.now.high ≡ 4 = search rules in
    let f : FitsSigned w128 x = search rules in
    simp to_z-of_z (c.requires.high 1 (pos 0) (omega (arith, l)))

pub upper-requires-3-clause-low : goal.upper-requires-3-clause-low
upper-requires-3-clause-low c =
    let x = get_or c.args.within.now.low 2 (pos 0) in
    let l : length c.args.within.now.low ≡ 4 = search rules in
    let f : FitsSigned w128 x = search rules in
    simp to_z-of_z (c.requires.low 2 (pos 0) (omega (arith, l)))

pub upper-requires-3-clause-high : goal.upper-requires-3-clause-high
upper-requires-3-clause-high c =
    let x = get_or c.args.within.now.high 2 (pos 0) in
    let l : length c.args.within.now.high ≡ 4 = search rules in
    let f : FitsSigned w128 x = search rules in
    simp to_z-of_z (c.requires.high 2 (pos 0) (omega (arith, l)))

pub upper-requires-4-clause-low : goal.upper-requires-4-clause-low
upper-requires-4-clause-low c =
    let x = get_or c.args.within.now.low 3 (pos 0) in
    let l : length c.args.within.now.low ≡ 4 = search rules in
    let f : FitsSigned w128 x = search rules in
    simp to_z-of_z (c.requires.low 3 (pos 0) (omega (arith, l)))

pub upper-requires-4-clause-high : goal.upper-requires-4-clause-high
upper-requires-4-clause-high c =
    let x = get_or c.args.within.now.high 3 (pos 0) in
    let l : length c.args.within.now.high ≡ 4 = search rules in
    let f : FitsSigned w128 x = search rules in
    simp to_z-of_z (c.requires.high 3 (pos 0) (omega (arith, l)))

pub returns-clause-low : goal.returns-clause-low
returns-clause-low c =
    let fl0 : FitsSigned w128 c.lower.result = search rules in
    let fl1 : FitsSigned w128 c.lower-2.result = search rules in
    let fl2 : FitsSigned w128 c.lower-3.result = search rules in
    let fl3 : FitsSigned w128 c.lower-4.result = search rules in
    let s0 : unsigned_abs (to_z w128 (of_z w128 c.lower.result)) ≤ 4095 = simp to_z-of_z c.lower.ensures.small in
    let s1 : unsigned_abs (to_z w128 (of_z w128 c.lower-2.result)) ≤ 4095 = simp to_z-of_z c.lower-2.ensures.small in
    let s2 : unsigned_abs (to_z w128 (of_z w128 c.lower-3.result)) ≤ 4095 = simp to_z-of_z c.lower-3.ensures.small in
    let s3 : unsigned_abs (to_z w128 (of_z w128 c.lower-4.result)) ≤ 4095 = simp to_z-of_z c.lower-4.ensures.small in
    small_four (to_z w128 (of_z w128 c.lower.result)) (to_z w128 (of_z w128 c.lower-2.result)) (to_z w128 (of_z w128 c.lower-3.result)) (to_z w128 (of_z w128 c.lower-4.result)) s0 s1 s2 s3

pub returns-clause-high : goal.returns-clause-high
returns-clause-high c =
    let fu0 : FitsSigned w128 c.upper.result = search rules in
    let fu1 : FitsSigned w128 c.upper-2.result = search rules in
    let fu2 : FitsSigned w128 c.upper-3.result = search rules in
    let fu3 : FitsSigned w128 c.upper-4.result = search rules in
    let s0 : unsigned_abs (to_z w128 (of_z w128 c.upper.result)) ≤ 4095 = simp to_z-of_z c.upper.ensures.small in
    let s1 : unsigned_abs (to_z w128 (of_z w128 c.upper-2.result)) ≤ 4095 = simp to_z-of_z c.upper-2.ensures.small in
    let s2 : unsigned_abs (to_z w128 (of_z w128 c.upper-3.result)) ≤ 4095 = simp to_z-of_z c.upper-3.ensures.small in
    let s3 : unsigned_abs (to_z w128 (of_z w128 c.upper-4.result)) ≤ 4095 = simp to_z-of_z c.upper-4.ensures.small in
    small_four (to_z w128 (of_z w128 c.upper.result)) (to_z w128 (of_z w128 c.upper-2.result)) (to_z w128 (of_z w128 c.upper-3.result)) (to_z w128 (of_z w128 c.upper-4.result)) s0 s1 s2 s3

pub returns-clause-between : goal.returns-clause-between
returns-clause-between c =
    let a = c.args.own.now.low in
    let b = c.args.own.now.high in
    let d = c.args.within.now.low in
    let e = c.args.within.now.high in
    let la : length a ≡ 4 = search rules in
    let lb : length b ≡ 4 = search rules in
    let ld : length d ≡ 4 = search rules in
    let le : length e ≡ 4 = search rules in
    let fl0 : FitsSigned w128 c.lower.result = search rules in
    let fl1 : FitsSigned w128 c.lower-2.result = search rules in
    let fl2 : FitsSigned w128 c.lower-3.result = search rules in
    let fl3 : FitsSigned w128 c.lower-4.result = search rules in
    let fu0 : FitsSigned w128 c.upper.result = search rules in
    let fu1 : FitsSigned w128 c.upper-2.result = search rules in
    let fu2 : FitsSigned w128 c.upper-3.result = search rules in
    let fu3 : FitsSigned w128 c.upper-4.result = search rules in
    let ga0 : FitsSigned w128 (get_or a 0 (pos 0)) = search rules in
    let ga1 : FitsSigned w128 (get_or a 1 (pos 0)) = search rules in
    let ga2 : FitsSigned w128 (get_or a 2 (pos 0)) = search rules in
    let ga3 : FitsSigned w128 (get_or a 3 (pos 0)) = search rules in
    let gb0 : FitsSigned w128 (get_or b 0 (pos 0)) = search rules in
    let gb1 : FitsSigned w128 (get_or b 1 (pos 0)) = search rules in
    let gb2 : FitsSigned w128 (get_or b 2 (pos 0)) = search rules in
    let gb3 : FitsSigned w128 (get_or b 3 (pos 0)) = search rules in
    let gd0 : FitsSigned w128 (get_or d 0 (pos 0)) = search rules in
    let gd1 : FitsSigned w128 (get_or d 1 (pos 0)) = search rules in
    let gd2 : FitsSigned w128 (get_or d 2 (pos 0)) = search rules in
    let gd3 : FitsSigned w128 (get_or d 3 (pos 0)) = search rules in
    let ge0 : FitsSigned w128 (get_or e 0 (pos 0)) = search rules in
    let ge1 : FitsSigned w128 (get_or e 1 (pos 0)) = search rules in
    let ge2 : FitsSigned w128 (get_or e 2 (pos 0)) = search rules in
    let ge3 : FitsSigned w128 (get_or e 3 (pos 0)) = search rules in
    let p0 : (to_z w128 (of_z w128 c.lower.result)) ≡ c.lower.result = simp to_z-of_z in
    let q0 : (to_z w128 (of_z w128 c.upper.result)) ≡ c.upper.result = simp to_z-of_z in
    let t0 = tight_same (get_or a 0 (pos 0)) (get_or b 0 (pos 0)) (get_or d 0 (pos 0)) (get_or e 0 (pos 0)) c.lower.result c.upper.result (to_z w128 (of_z w128 c.lower.result)) (to_z w128 (of_z w128 c.upper.result)) p0 q0
    (record { below = simp to_z-of_z at c.lower.ensures.below; above = simp to_z-of_z at c.upper.ensures.above }) in
    let p1 : (to_z w128 (of_z w128 c.lower-2.result)) ≡ c.lower-2.result = simp to_z-of_z in
    let q1 : (to_z w128 (of_z w128 c.upper-2.result)) ≡ c.upper-2.result = simp to_z-of_z in
    let t1 = tight_same (get_or a 1 (pos 0)) (get_or b 1 (pos 0)) (get_or d 1 (pos 0)) (get_or e 1 (pos 0)) c.lower-2.result c.upper-2.result (to_z w128 (of_z w128 c.lower-2.result)) (to_z w128 (of_z w128 c.upper-2.result)) p1 q1
    (record { below = simp to_z-of_z at c.lower-2.ensures.below; above = simp to_z-of_z at c.upper-2.ensures.above }) in
    let p2 : (to_z w128 (of_z w128 c.lower-3.result)) ≡ c.lower-3.result = simp to_z-of_z in
    let q2 : (to_z w128 (of_z w128 c.upper-3.result)) ≡ c.upper-3.result = simp to_z-of_z in
    let t2 = tight_same (get_or a 2 (pos 0)) (get_or b 2 (pos 0)) (get_or d 2 (pos 0)) (get_or e 2 (pos 0)) c.lower-3.result c.upper-3.result (to_z w128 (of_z w128 c.lower-3.result)) (to_z w128 (of_z w128 c.upper-3.result)) p2 q2
    (record { below = simp to_z-of_z at c.lower-3.ensures.below; above = simp to_z-of_z at c.upper-3.ensures.above }) in
    let p3 : (to_z w128 (of_z w128 c.lower-4.result)) ≡ c.lower-4.result = simp to_z-of_z in
    let q3 : (to_z w128 (of_z w128 c.upper-4.result)) ≡ c.upper-4.result = simp to_z-of_z in
    let t3 = tight_same (get_or a 3 (pos 0)) (get_or b 3 (pos 0)) (get_or d 3 (pos 0)) (get_or e 3 (pos 0)) c.lower-4.result c.upper-4.result (to_z w128 (of_z w128 c.lower-4.result)) (to_z w128 (of_z w128 c.upper-4.result)) p3 q3
    (record { below = simp to_z-of_z at c.lower-4.ensures.below; above = simp to_z-of_z at c.upper-4.ensures.above }) in
    between_both a b d e la lb ld le (to_z w128 (of_z w128 c.lower.result)) (to_z w128 (of_z w128 c.lower-2.result)) (to_z w128 (of_z w128 c.lower-3.result)) (to_z w128 (of_z w128 c.lower-4.result)) (to_z w128 (of_z w128 c.upper.result)) (to_z w128 (of_z w128 c.upper-2.result)) (to_z w128 (of_z w128 c.upper-3.result)) (to_z w128 (of_z w128 c.upper-4.result)) t0 t1 t2 t3
