use Rattle.std.proofs.Common.{refl, subst}
use Rattle.av_poly.specs.Points.{Set}
use Rattle.av_normal.specs.Extents.{IsExtent, IsEndlessOf}
use Rattle.av_flat.specs.Trees.{view_variable}
use Rattle.av_normal.proofs.Outcomes.{if_err, if_ok_both}
use Rattle.av_normal.proofs.Limits.{small_set, few_rows}
use Rattle.av_normal.proofs.InnerSets.{same_set}
use Rattle.av_normal.proofs.Ends.{without_end}
use Rattle.av_normal.proofs.bounded.declared_extent.Goals as goal

pub extent-requires-clause-rows : goal.extent-requires-clause-rows
extent-requires-clause-rows c =
    let made = c.in_ok-domain.ensures in
    small_set c.args.var.now.domain c.in_ok-domain.domain (record { dim = made.dim; rows = made.rows }) (λ o. c.requires.1 o.0 o.1 o.2)

pub extent-requires-clause-few : goal.extent-requires-clause-few
extent-requires-clause-few c =
    let made = c.in_ok-domain.ensures in
    few_rows c.args.var.now.domain c.in_ok-domain.domain (record { dim = made.dim; rows = made.rows }) (λ o. c.requires.1 o.0 o.1 o.2)

pub returns-clause-found : goal.returns-clause-found
returns-clause-found c =
    let made = c.in_ok-domain.ensures in
    let new : Set = c.in_ok-domain.domain in
    let own : Set = record { dim = c.args.var.now.domain.dim; rows = new.rows } in
    let same = same_set new own made.dim refl in
    if_ok_both c.extent.result c.extent.ensures.found c.extent.ensures.size (λ x p q. (new.rows, made.rows, subst (λ (at : Set). IsExtent at x) same p, q))

pub returns-clause-endless : goal.returns-clause-endless
returns-clause-endless c =
    let v = view_variable c.args.var.now in
    let made = c.in_ok-domain.ensures in
    let new : Set = c.in_ok-domain.domain in
    let own : Set = record { dim = c.args.var.now.domain.dim; rows = new.rows } in
    let same = same_set new own made.dim refl in
    if_err c.extent.result c.extent.ensures.endless (λ f h. without_end v new.rows made.rows f (subst (λ (at : Set). IsEndlessOf v.name at f) same h))
