use Rattle.av_affine.proofs.Composing.{coefficients_most}
use Rattle.std.proofs.Common.{sym, ◌∙◌, subst, ap, ◌^◌}
use Rattle.av_affine.specs.Numbers.{AtMost}
use Rattle.av_affine.specs.Maps.{coefficients_of}
use Rattle.av_affine.proofs.compose.coefficient.Goals as goal

pub products-requires-clause-numbers : goal.products-requires-clause-numbers
products-requires-clause-numbers c =
    let rows = c.args.inner.now.rows in
    let e = c.as_slice-then-index-inner.ensures.value ∙ c.coefficients.ensures ∙ ap (coefficients_of c.args.index) c.as_slice.ensures.value in
    subst (AtMost (2 ^ 20)) (sym e) (coefficients_most rows c.args.index c.requires.inner)
