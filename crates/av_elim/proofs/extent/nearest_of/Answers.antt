use Rattle.std.proofs.Common.{rules, ◌≡◌, ◌∙◌, ℤ, pos, get_or, FitsSigned, to_z-of_z, to_z, of_z, length}
use mir.Syntax.{w128}
use Rattle.av_affine.proofs.Fours.{four}
use Rattle.av_elim.specs.inner.Clamped.{clamp}
use Rattle.av_elim.proofs.extent.nearest_of.Goals as goal

pub returns : goal.returns
returns c =
    let r = c.args.numbers in
    let l : length r ≡ 4 = search rules in
    let f0 : FitsSigned w128 (get_or r 0 (pos 0)) = search rules in
    let f1 : FitsSigned w128 (get_or r 1 (pos 0)) = search rules in
    let f2 : FitsSigned w128 (get_or r 2 (pos 0)) = search rules in
    let f3 : FitsSigned w128 (get_or r 3 (pos 0)) = search rules in
    let back : (z : ℤ) → FitsSigned w128 z → to_z w128 (of_z w128 z) ≡ z = λ z f. simp to_z-of_z in
    let e0 = simp to_z-of_z at c.nearest.ensures in
    let e1 = simp to_z-of_z at c.nearest-2.ensures in
    let e2 = simp to_z-of_z at c.nearest-3.ensures in
    let e3 = simp to_z-of_z at c.nearest-4.ensures in
    four clamp r _ _ _ _ l (back c.nearest.result (search rules) ∙ e0) (back c.nearest-2.result (search rules) ∙ e1) (back c.nearest-3.result (search rules) ∙ e2) (back c.nearest-4.result (search rules) ∙ e3)
