use Rattle.std.proofs.Common.{rules, ◌≡◌, ℤ, pos, List, ◌∷◌, ◌∙◌, ap₂, suc, length, get_or, FitsSigned, to_z-of_z, to_z, of_z, w64, arith}
use Rattle.std.proofs.Math.IntN.{neg_ℤ}
use Rattle.av_elim.proofs.Merging.{four_combined}
use Rattle.av_elim.proofs.eliminate.combined.Goals as goal

pub small_number-constant-requires-clause-low : goal.small_number-constant-requires-clause-low
small_number-constant-requires-clause-low c =
    let f : FitsSigned w64 (get_or c.args.below.now.coef c.args.other (pos 0)) = search rules in
    simp to_z-of_z (c.requires.below.coefficients (suc c.args.other) (omega arith))

pub small_number-constant-requires-clause-high : goal.small_number-constant-requires-clause-high
small_number-constant-requires-clause-high c =
    let f : FitsSigned w64 (get_or c.args.above.now.coef c.args.other (pos 0)) = search rules in
    simp to_z-of_z (c.requires.above.coefficients (suc c.args.other) (omega arith))

pub returns : goal.returns
returns c =
    let p = c.args.below.now.coef in
    let n = c.args.above.now.coef in
    let low = get_or p c.args.other (pos 0) in
    let high = get_or n c.args.other (pos 0) in
    let h : length p ≡ 4 = search rules in
    let i : length n ≡ 4 = search rules in
    let f : FitsSigned w64 low = search rules in
    let g : FitsSigned w64 high = search rules in
    let j : FitsSigned w64 c.args.below.now.constant = search rules in
    let k : FitsSigned w64 c.args.above.now.constant = search rules in
    let back : (z : ℤ) → FitsSigned w64 z → to_z w64 (of_z w64 z) ≡ z = λ z f. simp to_z-of_z in
    let e = simp to_z-of_z at c.small_number-constant.ensures in
    ap₂ (λ (x : ℤ) (xs : List ℤ). x ∷ xs) (back c.small_number-constant.result (search rules) ∙ e)
    (four_combined low (neg_ℤ high) p n _ _ _ _ h i (back c.coefficient.result (search rules) ∙ c.coefficient.ensures) (back c.coefficient-2.result (search rules) ∙ c.coefficient-2.ensures)
    (back c.coefficient-3.result (search rules) ∙ c.coefficient-3.ensures) (back c.coefficient-4.result (search rules) ∙ c.coefficient-4.ensures))

pub coefficient-requires-clause-below : goal.coefficient-requires-clause-below
coefficient-requires-clause-below c = c.requires.below

pub coefficient-requires-clause-above : goal.coefficient-requires-clause-above
coefficient-requires-clause-above c = c.requires.above

pub coefficient-requires-2-clause-below : goal.coefficient-requires-2-clause-below
coefficient-requires-2-clause-below c = c.requires.below

pub coefficient-requires-2-clause-above : goal.coefficient-requires-2-clause-above
coefficient-requires-2-clause-above c = c.requires.above

pub coefficient-requires-3-clause-below : goal.coefficient-requires-3-clause-below
coefficient-requires-3-clause-below c = c.requires.below

pub coefficient-requires-3-clause-above : goal.coefficient-requires-3-clause-above
coefficient-requires-3-clause-above c = c.requires.above

pub coefficient-requires-4-clause-below : goal.coefficient-requires-4-clause-below
coefficient-requires-4-clause-below c = c.requires.below

pub coefficient-requires-4-clause-above : goal.coefficient-requires-4-clause-above
coefficient-requires-4-clause-above c = c.requires.above

pub small_number-constant-requires-clause-below : goal.small_number-constant-requires-clause-below
small_number-constant-requires-clause-below c =
    let f : FitsSigned w64 c.args.below.now.constant = search rules in
    let h = c.requires.below.constant in
    simp to_z-of_z (omega (arith, h))

pub small_number-constant-requires-clause-above : goal.small_number-constant-requires-clause-above
small_number-constant-requires-clause-above c =
    let f : FitsSigned w64 c.args.above.now.constant = search rules in
    let h = c.requires.above.constant in
    simp to_z-of_z (omega (arith, h))
