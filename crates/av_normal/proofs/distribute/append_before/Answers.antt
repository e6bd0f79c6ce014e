use Rattle.std.proofs.Common.{sym, subst, List}
use Rattle.std.specs.List.{All}
use Rattle.std.proofs.lemmas.List.Elements.{All-append}
use Rattle.av_affine.specs.declared.form.Form.{Form}
use Rattle.av_poly.specs.Points.{IsSmall}
use Rattle.av_normal.proofs.Outcomes.{on_ok}
use Rattle.av_normal.proofs.distribute.append_before.Goals as goal

pub returns-clause-small : goal.returns-clause-small
returns-clause-small c =
    let P : List Form → Type 0 = λ (rows : List Form). All IsSmall rows in
    let small = subst P (sym c.as_slice.ensures) c.before-2.invariant in
    on_ok c.append_rows.result c.append_rows.ensures (λ e h. subst P (sym e) (All-append IsSmall c.args.rows.now c.as_slice.result.now h small))
