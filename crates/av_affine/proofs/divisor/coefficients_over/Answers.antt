use Rattle.std.proofs.Common.{rules, ◌≡◌, ◌∙◌, ℤ, pos, get_or, FitsSigned, to_z-of_z, to_z, of_z, w64, length, arith}
use Rattle.std.specs.Int.{int_div_euclid}
use Rattle.std.proofs.lemmas.Grind.{common_steps}
use Rattle.av_affine.proofs.Fours.{four}
use Rattle.av_affine.proofs.divisor.coefficients_over.Goals as goal

pub returns : goal.returns
returns c =
    let r = c.args.coef in
    let l : length r ≡ 4 = search rules in
    let f0 : FitsSigned w64 (get_or r 0 (pos 0)) = search rules in
    let f1 : FitsSigned w64 (get_or r 1 (pos 0)) = search rules in
    let f2 : FitsSigned w64 (get_or r 2 (pos 0)) = search rules in
    let f3 : FitsSigned w64 (get_or r 3 (pos 0)) = search rules in
    let g : FitsSigned w64 c.args.divisor = c.ranges.divisor in
    let back : (z : ℤ) → FitsSigned w64 z → to_z w64 (of_z w64 z) ≡ z = λ z f. simp to_z-of_z in
    let e0 = simp to_z-of_z at c.div_euclid-a.ensures in
    let e1 = simp to_z-of_z at c.div_euclid-b.ensures in
    let e2 = simp to_z-of_z at c.div_euclid-c.ensures in
    let e3 = simp to_z-of_z at c.div_euclid-d.ensures in
    four (λ x. int_div_euclid x c.args.divisor) r _ _ _ _ l (back c.div_euclid-a.result (search rules) ∙ e0) (back c.div_euclid-b.result (search rules) ∙ e1) (back c.div_euclid-c.result (search rules) ∙ e2) (back c.div_euclid-d.result (search rules) ∙ e3)

pub div_euclid-d-requires-clause-no_overflow : goal.div_euclid-d-requires-clause-no_overflow
div_euclid-d-requires-clause-no_overflow c = grind (arith, common_steps)

pub div_euclid-c-requires-clause-no_overflow : goal.div_euclid-c-requires-clause-no_overflow
div_euclid-c-requires-clause-no_overflow c = grind (arith, common_steps)
