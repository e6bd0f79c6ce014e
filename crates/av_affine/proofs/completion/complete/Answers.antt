use Rattle.std.proofs.Common.{rules, ◌∙◌, ap, sym, subst, map, ℤ, ◌*ℤ◌, List, FitsSigned, to_z-of_z, w64, arith}
use Rattle.std.proofs.lemmas.Grind.{common_steps}
use Rattle.av_affine.specs.Completion.{first_row, rows_of, IsCompletion}
use Rattle.av_affine.proofs.completion.complete.Goals as goal

pub returns-clause-vector : goal.returns-clause-vector
returns-clause-vector c =
    let made = c.primitive_of-primitive in
    let f : FitsSigned w64 made.result.gcd = search rules in
    let g = simp to_z-of_z at c.completion_of.ensures.gcd in
    let first = c.completion_of.ensures.first ∙ c.as_slice-2.ensures.value in
    sym c.as_slice.ensures.value ∙ made.ensures.vector ∙ ap (map (λ x. made.result.gcd *ℤ x)) (sym first) ∙ ap (λ (d : ℤ). map (λ x. d *ℤ x) (first_row c.completion_of.result.m)) (sym g)

pub returns-clause-rule : goal.returns-clause-rule
returns-clause-rule c = subst (λ (v : List ℤ). IsCompletion v (rows_of c.completion_of.result.m)) (sym c.completion_of.ensures.first) c.completion_of.ensures.rule

pub returns-clause-sizes : goal.returns-clause-sizes
returns-clause-sizes c = grind (arith, common_steps)
