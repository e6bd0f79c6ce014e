use Rattle.std.proofs.Common.{◌<◌, ◌≤◌, ◌+◌, ◌++◌, length, map, drop, rules, List, Option, sym, subst}
use Rattle.std.specs.List.{AllByRecursion}
use Rattle.av_poly.specs.declared.poly.Bounds.{Bounds}
use Rattle.av_flat.specs.declared.flat.Var.{Var}
use Rattle.av_flat.specs.Trees.{view_variable}
use Rattle.av_normal.specs.Pairwise.{Pairwise}
use Rattle.av_normal.specs.Domains.{HasNarrowDomain, IsDeclaredExtent, IsEndless}
use Rattle.av_normal.specs.declared.fault.NormalFault.{NormalFault}
use Rattle.av_normal.proofs.Firsts.{one_along, made_along}
use Rattle.av_normal.proofs.Ends.{has_end, endless_after}
use Rattle.av_normal.proofs.bounded.extents.Goals as goal
use Rattle.av_base.proofs.Lists.{next_item, nothing_left}

pub declared_extent-requires : goal.declared_extent-requires
declared_extent-requires c =
    let vars = c.args.vars.now in
    let i = c.loop-var.var-index in
    let l : i < length vars = search rules in
    (subst (λ (vs : List Var). AllByRecursion HasNarrowDomain (map view_variable vs)) (next_item vars i c.var-item.result l c.var-item.is) c.loop-var.invariant.narrow).0

pub loop-var-preserved : goal.loop-var-preserved
loop-var-preserved c =
    let vars = c.args.vars.now in
    let i = c.loop-var.var-index in
    let l : i < length vars = search rules in
    let v = view_variable c.var-item.result in
    let rest = map view_variable (drop (i + 1) vars) in
    let all = map view_variable vars in
    let next = next_item vars i c.var-item.result l c.var-item.is in
    let made = subst (λ (vs : List Var). (es : List (Option Bounds)) → Pairwise IsDeclaredExtent (map view_variable vs) es → Pairwise IsDeclaredExtent all (c.loop-var.extents ++ es)) next c.loop-var.invariant.made in
    let endless = subst (λ (vs : List Var). (f : NormalFault) → IsEndless (map view_variable vs) f → IsEndless all f) next c.loop-var.invariant.endless in
    let found = c.in_ok-declared_extent.ensures.found in
    record {
      narrow = (subst (λ (vs : List Var). AllByRecursion HasNarrowDomain (map view_variable vs)) next c.loop-var.invariant.narrow).1;
      made = subst (λ (now : List (Option Bounds)). (es : List (Option Bounds)) → Pairwise IsDeclaredExtent rest es → Pairwise IsDeclaredExtent all (now ++ es)) (sym c.in_ok-push.ensures.ok)
          (one_along IsDeclaredExtent v rest all c.in_ok-declared_extent.field-0 c.loop-var.extents made found);
      endless = λ f h. endless f (endless_after v rest f (has_end v c.in_ok-declared_extent.field-0 found) h);
    }

pub returns-clause-found : goal.returns-clause-found
returns-clause-found c =
    let vars = c.args.vars.now in
    let all = map view_variable vars in
    let l : length vars ≤ c.loop-var.var-index = search rules in
    let made = subst (λ (vs : List Var). (es : List (Option Bounds)) → Pairwise IsDeclaredExtent (map view_variable vs) es → Pairwise IsDeclaredExtent all (c.loop-var.extents ++ es)) (nothing_left vars c.loop-var.var-index l) c.loop-var.invariant.made in
    made_along IsDeclaredExtent all c.loop-var.extents made
