use Rattle.av_affine.proofs.Composing.{image_through, within_limits}
use Rattle.std.proofs.Common.{◌≡◌, sym, ◌∙◌, subst, ap, List, ℕ, arith, map}
use Rattle.av_affine.specs.declared.map.Map.{Map}
use Rattle.av_affine.specs.Maps.{image, through, greatest_coefficient, greatest_constant}
use Rattle.av_affine.specs.declared.form.Form.{Form}
use Rattle.av_affine.proofs.map.Map.compose.Goals as goal

pub returns-clause-points : goal.returns-clause-points
returns-clause-points c =
    let outer = c.args.self.now.rows in
    let inner = c.args.inner.now.rows in
    let from = ap (λ (m : Map). m.from) c.composed-composed.ensures in
    let rows = ap (λ (m : Map). m.rows) c.composed-composed.ensures in
    λ z fits short.
    let at_n = subst (λ (n : ℕ). image (map (through n inner) outer) z ≡ image outer (image inner z)) (fits ∙ from) (image_through outer inner z short) in
    subst (λ (fs : List Form). image fs z ≡ image outer (image inner z)) (sym rows) at_n

pub returns-clause-limits : goal.returns-clause-limits
returns-clause-limits c =
    let a = ap greatest_coefficient c.as_slice.ensures.value in
    let b = ap greatest_constant c.as_slice-2.ensures.value in
    within_limits c.composed-composed.result.rows
    (omega (arith, a, c.most_coefficient-coefficient.ensures)) (omega (arith, b, c.most_constant-constant.ensures))
