use Rattle.std.proofs.Common.{◌++◌, ◌∙◌, List, length, ap, sym, subst}
use Rattle.std.specs.List.{All}
use Rattle.av_affine.specs.declared.form.Form.{Form}
use Rattle.av_affine.specs.Forms.{IsWithinLimits}
use Rattle.av_poly.specs.Preimages.{rows_before}
use Rattle.av_normal.proofs.Outcomes.{on_ok}
use Rattle.av_normal.proofs.Reading.{place_within, dimension_read, rows_read}
use Rattle.av_normal.proofs.piece.append_read.Goals as goal

pub append_before-requires-clause-fits : goal.append_before-requires-clause-fits
append_before-requires-clause-fits c =
    let l = place_within c.args.vars.now c.args.place.0 (length c.args.map.now.rows) c.requires.fits in
    dimension_read c.args.vars.now c.args.place.0 c.index-vars-place.result l c.index-vars-place.is (length c.args.map.now.rows) c.requires.fits

pub append_before-requires-clause-rows : goal.append_before-requires-clause-rows
append_before-requires-clause-rows c =
    let l = place_within c.args.vars.now c.args.place.0 (length c.args.map.now.rows) c.requires.fits in
    subst (λ (rows : List Form). All IsWithinLimits rows) (rows_read c.args.vars.now c.args.place.0 c.index-vars-place.result l c.index-vars-place.is) c.requires.rows

pub returns-clause-rows : goal.returns-clause-rows
returns-clause-rows c =
    let l = place_within c.args.vars.now c.args.place.0 (length c.args.map.now.rows) c.requires.fits in
    let e = rows_read c.args.vars.now c.args.place.0 c.index-vars-place.result l c.index-vars-place.is in
    on_ok c.append_before.result c.append_before.ensures.rows (λ p. p ∙ ap (λ (rows : List Form). c.args.rows.now ++ rows_before c.args.map.now rows) (sym e))
