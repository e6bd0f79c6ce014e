use Rattle.std.proofs.Common.{rules, ◌≡◌, ◌+◌, ◌+ℤ◌, ◌≤ℤ◌, arith, ℤ, pos, List, length, get_or, subst, FitsSigned, to_z-of_z, w64}
use mir.Syntax.{w128}
use Rattle.std.proofs.lemmas.Int.{ints, fits_signed_from_abs}
use Rattle.std.proofs.lemmas.Grind.{common_steps}
use Rattle.av_affine.specs.Numbers.{dot}
use Rattle.av_poly.proofs.Intervals.{value_apart, rest_of}
use Rattle.av_poly.proofs.interval.narrowed.Goals as goal

pub returns-clause-keeps : goal.returns-clause-keeps
returns-clause-keeps c =
    let coef = c.args.row.now.coef in
    let fixed = c.args.fixed.now in
    let at = length fixed in
    let before = c.products-before.result in
    let after = c.most-after.result in
    let constant = c.args.row.now.constant in
    let l4 : length coef ≡ 4 = search rules in
    let fa : FitsSigned w64 (get_or coef at (pos 0)) = search rules in
    let fb : FitsSigned w128 before = search rules in
    let fc : FitsSigned w64 constant = search rules in
    let fd : FitsSigned w128 constant = fits_signed_from_abs w128 constant (omega (arith, c.requires.row.constant)) in
    let fe : FitsSigned w128 after = search rules in
    let ff : FitsSigned w128 (before +ℤ constant) = fits_signed_from_abs w128 (before +ℤ constant) (omega (arith, ints, c.products-before.ensures.small, c.requires.row.constant)) in
    let fg : FitsSigned w128 (before +ℤ constant +ℤ after) =
    fits_signed_from_abs w128 (before +ℤ constant +ℤ after) (omega (arith, ints, c.products-before.ensures.small, c.requires.row.constant, c.most-after.ensures.small)) in
    let k = simp to_z-of_z at c.restricted.ensures.keeps in
    λ x z n b h l q.
    let m = subst (λ (ys : List ℤ). dot ys z ≤ℤ after) (rest_of 4 coef (at + 1) l4) (c.most-after.ensures.most z n b) in
    let v = value_apart c.args.row.now fixed z x (pos 0) (omega (arith, l4, c.requires.fits)) in
    k x (omega (arith, ints, h, v, m, c.products-before.ensures.value)) l q

pub most-after-requires-clause-coef : goal.most-after-requires-clause-coef
most-after-requires-clause-coef c = grind (arith, common_steps)

pub restricted-requires-clause-rest : goal.restricted-requires-clause-rest
restricted-requires-clause-rest c = grind (arith, common_steps)

pub restricted-requires-clause-coef : goal.restricted-requires-clause-coef
restricted-requires-clause-coef c = grind (arith, common_steps)

pub overflow_add-before : goal.overflow_add-before
overflow_add-before c = grind (arith, common_steps)

pub overflow_cast-row : goal.overflow_cast-row
overflow_cast-row c = grind (arith, common_steps)

pub most-after-requires-clause-high : goal.most-after-requires-clause-high
most-after-requires-clause-high c = grind (arith, common_steps)

pub most-after-requires-clause-low : goal.most-after-requires-clause-low
most-after-requires-clause-low c = grind (arith, common_steps)
