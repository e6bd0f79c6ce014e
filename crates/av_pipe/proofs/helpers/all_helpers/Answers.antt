use Rattle.std.proofs.Common.{rules, ◌≡◌, ◌∙◌, ◌<◌, ◌+◌, ◌∷◌, ◌++◌, List, length, map, drop, sym, ap, subst, arith}
use Rattle.std.specs.List.{AllByRecursion}
use Rattle.av_flat.specs.declared.flat.Flat.{Flat}
use Rattle.av_flat.specs.declared.flat.Var.{Var}
use Rattle.av_flat.specs.Trees.{view_variable, view_system}
use Rattle.av_flat.specs.Nodes.{number_at}
use Rattle.av_pipe.specs.inner.Helping.{HasFinePieces}
use Rattle.av_pipe.specs.Pipelines.{of_variables, pipelines}
use Rattle.av_pipe.proofs.Numbering.{made_more}
use Rattle.av_pipe.proofs.helpers.all_helpers.Goals as goal
use Rattle.av_base.proofs.Lists.{next_item}

pub number-node-requires : goal.number-node-requires
number-node-requires c =
    let l : c.loop-place.place < length c.as_slice-vars.result.now = search rules in
    let e = ap (λ (xs : List Var). length xs) (c.as_slice-vars.ensures ∙ ap (λ (f : Flat). f.vars) (sym c.in_ok-nodes.ensures)) in
    omega (arith, l, e)

pub loop-place-preserved : goal.loop-place-preserved
loop-place-preserved c =
    let vars = c.as_slice-vars.result.now in
    let i = c.loop-place.place in
    let s = view_system c.args.flat.now in
    let x = c.index-vars-place.result in
    let l : i < length vars = search rules in
    let next : drop i vars ≡ x ∷ drop (i + 1) vars = next_item vars i x l c.index-vars-place.is in
    record {
      maps = (subst (λ (xs : List Var). AllByRecursion HasFinePieces (map view_variable xs)) next c.loop-place.invariant.maps).1;
      made = made_more s c.args.times.now i (view_variable x) (map view_variable (drop (i + 1) vars)) c.loop-place.helpers c.variable_helpers.new.helpers (pipelines s c.args.times.now) c.number-node.result.0
          (c.number-node.ensures.is ∙ ap (λ (f : Flat). number_at (view_system f) i) c.in_ok-nodes.ensures)
          (subst (λ (xs : List Var). c.loop-place.helpers ++ of_variables s c.args.times.now i (map view_variable xs) ≡ pipelines s c.args.times.now) next c.loop-place.invariant.made)
          c.in_ok-variable_helpers.ensures;
    }
