use Rattle.std.proofs.Common.{ℕ, ◌<◌, ◌≤◌, ◌+◌, List, length, map, drop, rules, subst}
use Rattle.std.proofs.lemmas.Result.{err_from_is_err_and}
use Rattle.std.specs.List.{flat_map}
use Rattle.av_flat.specs.declared.flat.Var.{Var}
use Rattle.av_flat.specs.Trees.{Piece, Variable, view_piece, view_variable}
use Rattle.av_serial.specs.SerialFaults.{reductions_in, HasNodesIn}
use Rattle.av_serial.specs.inner.Tries.{CanTryAll}
use Rattle.av_serial.specs.inner.Counted.{IsCapped}
use Rattle.av_serial.proofs.Finding.{IsWalk, IsCount, walk_more, walk_bad, capped_more, capped_all}
use Rattle.av_serial.proofs.walk.all_nodes.Goals as goal
use Rattle.av_base.proofs.Lists.{next_item, nothing_left}

pub returns-in_err-more-clause-bad : goal.returns-in_err-more-clause-bad
returns-in_err-more-clause-bad c =
    let vars = c.args.vars.now in
    let i = c.loop-var.var-index in
    let l : i < length vars = search rules in
    let next = next_item vars i c.var-item.result l c.var-item.is in
    let f : List Var → _ = λ (ps : List Var). flat_map (λ (v : Variable). flat_map (λ (p : Piece). reductions_in v.name p.tree) v.pieces) (map view_variable ps) in
    let p = err_from_is_err_and c.from_residual.result c.from_residual.ensures.1 in
    rw (p.1, p.2)
    (walk_bad (f vars) (flat_map (λ (p : Piece). reductions_in c.var-item.result.name p.tree) (map view_piece c.var-item.result.pieces)) (f (drop (i + 1) vars)) (subst (λ (ps : List Var). IsWalk (f vars) (f ps)) next c.loop-var.invariant.walk)
    c.in_err-more.field-0.0 (rw c.as_slice.ensures at c.in_err-more.ensures.bad))

pub loop-var-preserved : goal.loop-var-preserved
loop-var-preserved c =
    let vars = c.args.vars.now in
    let i = c.loop-var.var-index in
    let l : i < length vars = search rules in
    let next = next_item vars i c.var-item.result l c.var-item.is in
    let f : List Var → _ = λ (ps : List Var). flat_map (λ (v : Variable). flat_map (λ (p : Piece). reductions_in v.name p.tree) v.pieces) (map view_variable ps) in
    let P : Variable → ℕ → Type 0 = HasNodesIn in
    record {
      can = (subst (λ (ps : List Var). CanTryAll (map view_variable ps)) next c.loop-var.invariant.can).1;
      walk = walk_more (f vars) (flat_map (λ (p : Piece). reductions_in c.var-item.result.name p.tree) (map view_piece c.var-item.result.pieces)) (f (drop (i + 1) vars)) (subst (λ (ps : List Var). IsWalk (f vars) (f ps)) next c.loop-var.invariant.walk) (rw c.as_slice.ensures at c.in_ok-more.ensures.clean);
      count = capped_more P (map view_variable vars) (view_variable c.var-item.result) (map view_variable (drop (i + 1) vars)) c.loop-var.count c.in_ok-more.more c.saturating_add-count.result
          (subst (λ (ps : List Var). IsCapped (IsCount P (map view_variable vars) (map view_variable ps)) c.loop-var.count) next c.loop-var.invariant.count) (rw c.as_slice.ensures at c.in_ok-more.ensures.nodes) c.saturating_add-count.ensures;
    }

pub returns-clause-nodes : goal.returns-clause-nodes
returns-clause-nodes c =
    let vars = c.args.vars.now in
    let l : length vars ≤ c.loop-var.var-index = search rules in
    let P : Variable → ℕ → Type 0 = HasNodesIn in
    capped_all P (map view_variable vars) c.loop-var.count
    (subst (λ (ps : List Var). IsCapped (IsCount P (map view_variable vars) (map view_variable ps)) c.loop-var.count) (nothing_left vars c.loop-var.var-index l) c.loop-var.invariant.count)
