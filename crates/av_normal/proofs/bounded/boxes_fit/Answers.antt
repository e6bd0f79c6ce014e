use Rattle.std.proofs.Common.{◌<◌, length, get_or, rules, List, Option, None, inl, inr, sym, subst}
use Rattle.std.specs.List.{AllByRecursion}
use Rattle.std.proofs.lemmas.List.{get_or_default}
use Rattle.std.proofs.lemmas.Result.{err_from_is_err_and}
use Rattle.av_poly.specs.declared.poly.Bounds.{Bounds}
use Rattle.av_normal.specs.Pairwise.{IsFirstOf}
use Rattle.av_normal.specs.Domains.{IsSmallExtent, IsLargeExtent}
use Rattle.av_normal.proofs.bounded.boxes_fit.Goals as goal
use Rattle.av_base.proofs.Lists.{next_item}

pub returns-in_err-extent_fits-clause-over : goal.returns-in_err-extent_fits-clause-over
returns-in_err-extent_fits-clause-over c =
    let extents = c.args.extents.now in
    let i = c.loop-extent.extent-index in
    let x : Option Bounds = get_or extents i None in
    let l : i < length extents = search rules in
    let next = next_item extents i x l (get_or_default extents i None x l) in
    let f = c.in_err-extent_fits.field-0.0 in
    let p = err_from_is_err_and c.from_residual.result c.from_residual.ensures.1 in
    rw (p.1, p.2) (c.loop-extent.invariant.over f (subst (λ (es : List (Option Bounds)). IsFirstOf IsSmallExtent (IsLargeExtent f) es) (sym next) (inl c.in_err-extent_fits.ensures.over)))

pub loop-extent-preserved : goal.loop-extent-preserved
loop-extent-preserved c =
    let extents = c.args.extents.now in
    let i = c.loop-extent.extent-index in
    let x : Option Bounds = get_or extents i None in
    let l : i < length extents = search rules in
    let next = next_item extents i x l (get_or_default extents i None x l) in
    let small : IsSmallExtent x = c.in_ok-extent_fits.ensures.fit in
    record {
      fit = λ h. c.loop-extent.invariant.fit (subst (λ (es : List (Option Bounds)). AllByRecursion IsSmallExtent es) (sym next) (small, h));
      over = λ f h. c.loop-extent.invariant.over f (subst (λ (es : List (Option Bounds)). IsFirstOf IsSmallExtent (IsLargeExtent f) es) (sym next) (inr (small, h)));
    }
