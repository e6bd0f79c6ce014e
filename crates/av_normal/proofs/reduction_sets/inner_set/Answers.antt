use Rattle.std.proofs.Common.{◌≡◌, ◌++◌, List, ap, subst, ◌∙◌}
use Rattle.std.proofs.lemmas.Result.{err_from_is_err_and}
use Rattle.av_affine.specs.declared.form.Form.{Form}
use Rattle.av_poly.specs.Points.{Set}
use Rattle.av_poly.specs.Normal.{AreNormalised}
use Rattle.av_flat.specs.Quantities.{of_set}
use Rattle.av_normal.specs.Searches.{IsWideOne}
use Rattle.av_normal.specs.inner.ReductionSets.{inner_of}
use Rattle.av_normal.proofs.InnerSets.{same_set, early, narrow_inner, wide_inner}
use Rattle.av_normal.proofs.reduction_sets.inner_set.Goals as goal

pub returns-clause-normalised : goal.returns-clause-normalised
returns-clause-normalised c =
    let m = c.args.own.now in
    let holder = c.args.holder.now.rows in
    let set = c.args.set.now in
    let rows = c.in_ok-both.ensures.rows ∙ ap (λ (xs : List Form). xs ++ set.rows) c.in_ok-held.ensures.rows in
    let both : c.in_ok-both.both ≡ inner_of m holder set = same_set c.in_ok-both.both (inner_of m holder set) (c.in_ok-both.ensures.dim ∙ c.in_ok-held.ensures.dim) rows in
    let s = subst (λ (b : Set). AreNormalised b.dim b.rows c.in_ok-inner.inner.rows) both c.in_ok-inner.ensures.normalised in
    λ xs a. early c.args.holder.now.dim holder m set c.requires.foldable xs a c.in_ok-inner.inner.rows s

pub returns-clause-narrow : goal.returns-clause-narrow
returns-clause-narrow c =
    let m = c.args.own.now in
    let holder = c.args.holder.now.rows in
    let set = c.args.set.now in
    let rows = c.in_ok-both.ensures.rows ∙ ap (λ (xs : List Form). xs ++ set.rows) c.in_ok-held.ensures.rows in
    let both : c.in_ok-both.both ≡ inner_of m holder set = same_set c.in_ok-both.both (inner_of m holder set) (c.in_ok-both.ensures.dim ∙ c.in_ok-held.ensures.dim) rows in
    let s = subst (λ (b : Set). AreNormalised b.dim b.rows c.in_ok-inner.inner.rows) both c.in_ok-inner.ensures.normalised in
    λ xs a. narrow_inner c.args.holder.now.dim holder m set c.requires.foldable xs a c.in_ok-inner.inner.rows s c.in_ok-inner.ensures.greatest.0 c.in_ok-inner.ensures.greatest.1 c.in_ok-inner.ensures.few

pub returns-in_err-inner-clause-wide : goal.returns-in_err-inner-clause-wide
returns-in_err-inner-clause-wide c =
    let m = c.args.own.now in
    let holder = c.args.holder.now.rows in
    let set = c.args.set.now in
    let rows = c.in_ok-both.ensures.rows ∙ ap (λ (xs : List Form). xs ++ set.rows) c.in_ok-held.ensures.rows in
    let both : c.in_ok-both.both ≡ inner_of m holder set = same_set c.in_ok-both.both (inner_of m holder set) (c.in_ok-both.ensures.dim ∙ c.in_ok-held.ensures.dim) rows in
    let p = err_from_is_err_and c.from_residual-in_err-inner.result c.from_residual-in_err-inner.ensures.1 in
    let w = subst (λ (b : Set). IsWideOne (of_set b) c.in_err-inner.field-0.0) both c.in_err-inner.ensures.wide in
    rw (p.1, p.2) (λ xs a. wide_inner c.args.holder.now.dim holder m set c.requires.foldable xs a c.in_err-inner.field-0.0 w)
