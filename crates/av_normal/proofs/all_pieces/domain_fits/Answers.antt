use Rattle.std.proofs.Common.{[], ◌∙◌, ap}
use Rattle.std.proofs.lemmas.Result.{err_from_is_err_and}
use Rattle.av_poly.specs.Points.{Set}
use Rattle.av_flat.specs.Quantities.{of_set}
use Rattle.av_normal.proofs.Once.{narrow_within}
use Rattle.av_normal.proofs.SameRows.{wide_rows}
use Rattle.av_normal.proofs.Searching.{wide_here}
use Rattle.av_normal.proofs.all_pieces.domain_fits.Goals as goal

pub returns-in_err-rows_fit-clause-wide : goal.returns-in_err-rows_fit-clause-wide
returns-in_err-rows_fit-clause-wide c =
    let f = c.in_err-rows_fit.field-0.0 in
    let p = err_from_is_err_and c.from_residual-in_err-rows_fit.result c.from_residual-in_err-rows_fit.ensures.1 in
    let e = c.as_slice.ensures ∙ ap (λ (s : Set). s.rows) c.copy.view_is in
    let w = rw e at c.in_err-rows_fit.ensures.wide in
    rw (p.1, p.2) (wide_here (of_set c.args.domain.now) [] f (wide_rows c.args.domain.now c.in_ok-copy.copy.rows f c.in_ok-copy.ensures.rows w))

pub returns-clause-narrow : goal.returns-clause-narrow
returns-clause-narrow c =
    let fit = c.in_ok-rows_fit.ensures.fit in
    let e = c.as_slice.ensures ∙ ap (λ (s : Set). s.rows) c.copy.view_is in
    narrow_within c.args.domain.now c.in_ok-copy.copy.rows c.in_ok-copy.ensures.rows (rw e at fit.0) (rw e at fit.1) (rw e at fit.2)
