use Rattle.std.proofs.Common.{rules, to_z, of_z, ◌≤◌, ◌^◌, sym, ◌∙◌, subst, ap, ℤ, [], ◌∷◌, ◌+ℤ◌, arith, FitsSigned, to_z-of_z, w64}
use Rattle.std.specs.Int.RustNames.{unsigned_abs}
use Rattle.std.proofs.lemmas.Int.{ints, fits_signed_from_abs}
use Rattle.std.proofs.lemmas.List.Elements.{All-from_recursion}
use Rattle.std.proofs.lemmas.Grind.{common_steps}
use Rattle.av_affine.specs.Numbers.{AtMost, dot}
use Rattle.av_affine.specs.Maps.{constants_of}
use Rattle.av_affine.proofs.Composing.{constants_most}
use Rattle.av_affine.proofs.compose.inward.Goals as goal

pub products-constant-requires-clause-numbers : goal.products-constant-requires-clause-numbers
products-constant-requires-clause-numbers c =
    let e = c.as_slice-2.ensures.value ∙ c.constants.ensures ∙ ap constants_of c.as_slice.ensures.value in
    subst (AtMost (2 ^ 20)) (sym e) (constants_most c.args.inner.now.rows c.requires.inner)

-- a number of 64 bits is what its bits say
wrapped : (x : ℤ) → FitsSigned w64 x → unsigned_abs x ≤ 2 ^ 32 → unsigned_abs (to_z w64 (of_z w64 x)) ≤ 2 ^ 32
wrapped x f h = simp to_z-of_z h

pub returns-clause-coefficients : goal.returns-clause-coefficients
returns-clause-coefficients c =
    let small : (a b d e : ℤ) → unsigned_abs a ≤ 2 ^ 32 → unsigned_abs b ≤ 2 ^ 32 → unsigned_abs d ≤ 2 ^ 32 → unsigned_abs e ≤ 2 ^ 32 → AtMost (2 ^ 32) (a ∷ b ∷ d ∷ e ∷ []) =
    λ a b d e ha hb hd he. All-from_recursion (λ x. unsigned_abs x ≤ 2 ^ 32) (a ∷ b ∷ d ∷ e ∷ []) (ha, (hb, (hd, (he, tt)))) in
    small _ _ _ _
    (wrapped c.coefficient-a.result (search rules) c.coefficient-a.ensures.small)
    (wrapped c.coefficient-b.result (search rules) c.coefficient-b.ensures.small)
    (wrapped c.coefficient-c.result (search rules) c.coefficient-c.ensures.small)
    (wrapped c.coefficient-d.result (search rules) c.coefficient-d.ensures.small)

pub returns-clause-constant : goal.returns-clause-constant
returns-clause-constant c =
    let k = c.args.form.now.constant in
    let s = c.products-constant.result in
    let fk : FitsSigned w64 k = search rules in
    let fs : FitsSigned w64 s = search rules in
    let ft : FitsSigned w64 (s +ℤ k) = fits_signed_from_abs w64 (s +ℤ k) (omega (arith, ints, c.products-constant.ensures.small, c.requires.form.constant)) in
    simp to_z-of_z (omega (arith, ints, c.products-constant.ensures.small, c.requires.form.constant))

pub overflow_add-result : goal.overflow_add-result
overflow_add-result c = grind (arith, common_steps)

pub products-constant-requires-clause-coef : goal.products-constant-requires-clause-coef
products-constant-requires-clause-coef c = grind (arith, common_steps)
