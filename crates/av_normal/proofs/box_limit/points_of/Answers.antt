use Rattle.std.proofs.Common.{◌≡◌, length, rules, arith, get_or, pos, FitsSigned, to_z-of_z}
use Rattle.std.specs.Int.{w128}
use Rattle.av_normal.proofs.Boxes.{box_of}
use Rattle.av_normal.proofs.box_limit.points_of.Goals as goal

pub width-fourth-requires-clause-low : goal.width-fourth-requires-clause-low
width-fourth-requires-clause-low c =
    let x = get_or c.args.extent.now.low 3 (pos 0) in
    let l : length c.args.extent.now.low ≡ 4 = search rules in
    let f : FitsSigned w128 x = search rules in
    simp to_z-of_z (c.requires.low 3 (pos 0) (omega (arith, l)))

pub width-first-requires-clause-low : goal.width-first-requires-clause-low
width-first-requires-clause-low c =
    let x = get_or c.args.extent.now.low 0 (pos 0) in
    let l : length c.args.extent.now.low ≡ 4 = search rules in
    let f : FitsSigned w128 x = search rules in
    simp to_z-of_z (c.requires.low 0 (pos 0) (omega (arith, l)))

pub width-first-requires-clause-high : goal.width-first-requires-clause-high
width-first-requires-clause-high c =
    let x = get_or c.args.extent.now.high 0 (pos 0) in
    let l : length c.args.extent.now.high ≡ 4 = search rules in
    let f : FitsSigned w128 x = search rules in
    simp to_z-of_z (c.requires.high 0 (pos 0) (omega (arith, l)))

pub width-second-requires-clause-low : goal.width-second-requires-clause-low
width-second-requires-clause-low c =
    let x = get_or c.args.extent.now.low 1 (pos 0) in
    let l : length c.args.extent.now.low ≡ 4 = search rules in
    let f : FitsSigned w128 x = search rules in
    simp to_z-of_z (c.requires.low 1 (pos 0) (omega (arith, l)))

pub width-second-requires-clause-high : goal.width-second-requires-clause-high
width-second-requires-clause-high c =
    let x = get_or c.args.extent.now.high 1 (pos 0) in
    let l : length c.args.extent.now.high ≡ 4 = search rules in
    let f : FitsSigned w128 x = search rules in
    simp to_z-of_z (c.requires.high 1 (pos 0) (omega (arith, l)))

pub width-third-requires-clause-low : goal.width-third-requires-clause-low
width-third-requires-clause-low c =
    let x = get_or c.args.extent.now.low 2 (pos 0) in
    let l : length c.args.extent.now.low ≡ 4 = search rules in
    let f : FitsSigned w128 x = search rules in
    simp to_z-of_z (c.requires.low 2 (pos 0) (omega (arith, l)))

pub width-third-requires-clause-high : goal.width-third-requires-clause-high
width-third-requires-clause-high c =
    let x = get_or c.args.extent.now.high 2 (pos 0) in
    let l : length c.args.extent.now.high ≡ 4 = search rules in
    let f : FitsSigned w128 x = search rules in
    simp to_z-of_z (c.requires.high 2 (pos 0) (omega (arith, l)))

pub width-fourth-requires-clause-high : goal.width-fourth-requires-clause-high
width-fourth-requires-clause-high c =
    let x = get_or c.args.extent.now.high 3 (pos 0) in
    let l : length c.args.extent.now.high ≡ 4 = search rules in
    let f : FitsSigned w128 x = search rules in
    simp to_z-of_z (c.requires.high 3 (pos 0) (omega (arith, l)))

pub area-requires-clause-first : goal.area-requires-clause-first
area-requires-clause-first c =
    let f : FitsSigned w128 c.width-first.result = search rules in
    simp to_z-of_z c.width-first.ensures.small

pub area-requires-clause-second : goal.area-requires-clause-second
area-requires-clause-second c =
    let f : FitsSigned w128 c.width-second.result = search rules in
    simp to_z-of_z c.width-second.ensures.small

pub area-requires-2-clause-first : goal.area-requires-2-clause-first
area-requires-2-clause-first c =
    let f : FitsSigned w128 c.width-third.result = search rules in
    simp to_z-of_z c.width-third.ensures.small

pub area-requires-2-clause-second : goal.area-requires-2-clause-second
area-requires-2-clause-second c =
    let f : FitsSigned w128 c.width-fourth.result = search rules in
    simp to_z-of_z c.width-fourth.ensures.small

pub volume-requires-clause-first : goal.volume-requires-clause-first
volume-requires-clause-first c =
    let f : FitsSigned w128 c.area.result = search rules in
    simp to_z-of_z c.area.ensures.small

pub volume-requires-clause-second : goal.volume-requires-clause-second
volume-requires-clause-second c =
    let f : FitsSigned w128 c.area-2.result = search rules in
    simp to_z-of_z c.area-2.ensures.small

pub returns : goal.returns
returns c =
    let low = c.args.extent.now.low in
    let high = c.args.extent.now.high in
    let l : length low ≡ 4 = search rules in
    let h : length high ≡ 4 = search rules in
    let f : FitsSigned w128 c.volume.result = search rules in
    let g : FitsSigned w128 c.area.result = search rules in
    let i : FitsSigned w128 c.area-2.result = search rules in
    let j0 : FitsSigned w128 c.width-first.result = search rules in
    let j1 : FitsSigned w128 c.width-second.result = search rules in
    let j2 : FitsSigned w128 c.width-third.result = search rules in
    let j3 : FitsSigned w128 c.width-fourth.result = search rules in
    let a0 : FitsSigned w128 (get_or low 0 (pos 0)) = search rules in
    let a1 : FitsSigned w128 (get_or low 1 (pos 0)) = search rules in
    let a2 : FitsSigned w128 (get_or low 2 (pos 0)) = search rules in
    let a3 : FitsSigned w128 (get_or low 3 (pos 0)) = search rules in
    let b0 : FitsSigned w128 (get_or high 0 (pos 0)) = search rules in
    let b1 : FitsSigned w128 (get_or high 1 (pos 0)) = search rules in
    let b2 : FitsSigned w128 (get_or high 2 (pos 0)) = search rules in
    let b3 : FitsSigned w128 (get_or high 3 (pos 0)) = search rules in
    let v = simp to_z-of_z at c.volume.ensures.value in
    let p = simp to_z-of_z at c.area.ensures.value in
    let q = simp to_z-of_z at c.area-2.ensures.value in
    let w0 = simp to_z-of_z at c.width-first.ensures.value in
    let w1 = simp to_z-of_z at c.width-second.ensures.value in
    let w2 = simp to_z-of_z at c.width-third.ensures.value in
    let w3 = simp to_z-of_z at c.width-fourth.ensures.value in
    let e = box_of low high l h in
    simp to_z-of_z (cc)
