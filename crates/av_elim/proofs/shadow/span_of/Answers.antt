use Rattle.std.proofs.Common.{◌∙◌, suc, List, ap, sym, subst}
use Rattle.av_affine.specs.declared.form.Form.{Form}
use Rattle.av_poly.specs.Rational.{homogeneous}
use Rattle.av_elim.specs.inner.Span.{Tells, scanned, whole}
use Rattle.av_elim.specs.inner.Step.{eliminated}
use Rattle.av_elim.proofs.Telling.{tells_one, tells_last}
use Rattle.av_elim.proofs.shadow.span_of.Goals as goal

pub returns-then-dim-eq1 : goal.returns-then-dim-eq1
returns-then-dim-eq1 c = subst (Tells c.args.dim (homogeneous c.args.rows.now) c.args.index) (sym c.scan.ensures) (tells_one c.args.dim c.args.index (homogeneous c.args.rows.now) c.requires.index c.if-dim-eq1.true)

pub returns : goal.returns
returns c =
    let i = c.args.index in
    let last = c.last_other-last.result in
    let e = c.scan_without.ensures ∙ ap (λ (rows : List Form). scanned (suc i) (eliminated (suc last) (homogeneous rows)) whole) c.as_slice.ensures in
    subst (Tells c.args.dim (homogeneous c.args.rows.now) i) (sym e)
    (tells_last c.args.dim i last (homogeneous c.args.rows.now) (homogeneous c.in_ok-left.left) c.requires.index c.last_other-last.ensures.other c.last_other-last.ensures.rest c.in_ok-left.ensures.shadow c.in_ok-left.ensures.clear)
