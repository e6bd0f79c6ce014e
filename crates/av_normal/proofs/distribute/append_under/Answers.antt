use Rattle.std.proofs.Common.{sym, subst, List, map, ◌∙◌}
use Rattle.std.specs.List.{All}
use Rattle.std.proofs.lemmas.List.Elements.{All-append}
use Rattle.av_affine.specs.declared.form.Form.{Form}
use Rattle.av_poly.specs.Points.{IsSmall}
use Rattle.av_flat.specs.Quantities.{of_map, steps_under}
use Rattle.av_normal.proofs.NeverWide.{never_wide}
use Rattle.av_normal.proofs.Outcomes.{on_ok}
use Rattle.av_normal.proofs.Reading.{fits_under, small_under}
use Rattle.av_normal.proofs.distribute.append_under.Goals as goal

pub append_before-requires-clause-fits : goal.append_before-requires-clause-fits
append_before-requires-clause-fits c =
    fits_under c.args.under.now c.args.domain.now c.in-Ok-Some.whole (sym c.in-Ok-Some.field-0-is ∙ c.in-Ok-Some.ensures.composed) c.requires.fits

pub append_before-requires-clause-rows : goal.append_before-requires-clause-rows
append_before-requires-clause-rows c =
    small_under c.args.under.now c.args.domain.now c.in-Ok-Some.whole (sym c.in-Ok-Some.field-0-is ∙ c.in-Ok-Some.ensures.composed) c.requires.rows

pub returns-in-Ok-None-clause-small : goal.returns-in-Ok-None-clause-small
returns-in-Ok-None-clause-small c =
    let P : List Form → Type 0 = λ (rows : List Form). All IsSmall rows in
    let small = subst P (sym c.as_slice.ensures) c.domain.invariant in
    on_ok c.append_rows.result c.append_rows.ensures (λ e h. subst P (sym e) (All-append IsSmall c.args.rows.now c.as_slice.result.now h small))

pub unreachable-requires : goal.unreachable-requires
unreachable-requires c = never_wide (map of_map (steps_under c.args.under.now)) c.in-Err._fault c.requires.narrow c.in-Err.ensures.first c.in-Err.ensures.over
