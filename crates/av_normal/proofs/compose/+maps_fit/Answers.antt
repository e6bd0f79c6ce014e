use Rattle.std.proofs.Common.{◌≡◌, ◌<◌, ◌≤◌, ◌+◌, length, map, drop, rules, ap, sym, ◌∙◌, List}
use Rattle.std.proofs.lemmas.Result.{err_from_is_err_and}
use Rattle.av_flat.specs.declared.tree.Tree.{Tree as TreeMade}
use Rattle.av_flat.specs.Trees.{view, cases, trees_of}
use Rattle.av_flat.specs.Quantities.{of_map, steps_under, composed_maps}
use Rattle.av_flat.proofs.Views.{view_case}
use Rattle.av_normal.proofs.Outcomes.{on_ok, if_err}
use Rattle.av_normal.proofs.Searching.{narrow_append, wide_first, wide_second}
use Rattle.av_normal.proofs.Walks.{Narrow, next_tree, one_tree_more, tree_refused, four_first, four_second, four_third, four_fourth, four_narrow, case_stands}
use Rattle.av_normal.proofs.compose.+maps_fit.Goals as goal
use Rattle.av_base.proofs.Lists.{nothing_left}

-- ---- two operands

pub returns-in_err-maps_fit-in-Binary-clause-first : goal.returns-in_err-maps_fit-in-Binary-clause-first
returns-in_err-maps_fit-in-Binary-clause-first t c =
    let ds = c.args.under.now in
    let p = err_from_is_err_and c.from_residual-in_err-maps_fit-in-Binary.result c.from_residual-in_err-maps_fit-in-Binary.ensures.1 in
    rw (p.1, p.2, c.in-Binary.is)
    (wide_first of_map (composed_maps ds (view c.in-Binary.left.value)) (composed_maps ds (view c.in-Binary.right.value)) c.in_err-maps_fit-in-Binary.field-0.0 (rw c.deref.ensures at c.in_err-maps_fit-in-Binary.ensures.first))

pub returns-in_ok-maps_fit-in-Binary-clause-narrow : goal.returns-in_ok-maps_fit-in-Binary-clause-narrow
returns-in_ok-maps_fit-in-Binary-clause-narrow t c =
    let ds = c.args.under.now in
    let a : Narrow (composed_maps ds (view c.in-Binary.left.value)) = rw c.deref.ensures at c.in_ok-maps_fit-in-Binary.ensures.narrow in
    let b = rw c.deref-in-Binary.ensures at c.maps_fit-in-Binary.ensures.narrow in
    rw c.in-Binary.is (on_ok c.maps_fit-in-Binary.result b (λ k. narrow_append of_map (composed_maps ds (view c.in-Binary.left.value)) (composed_maps ds (view c.in-Binary.right.value)) a k))

pub returns-in_ok-maps_fit-in-Binary-clause-first : goal.returns-in_ok-maps_fit-in-Binary-clause-first
returns-in_ok-maps_fit-in-Binary-clause-first t c =
    let ds = c.args.under.now in
    let a : Narrow (composed_maps ds (view c.in-Binary.left.value)) = rw c.deref.ensures at c.in_ok-maps_fit-in-Binary.ensures.narrow in
    let b = rw c.deref-in-Binary.ensures at c.maps_fit-in-Binary.ensures.first in
    rw c.in-Binary.is (if_err c.maps_fit-in-Binary.result b (λ f k. wide_second of_map (composed_maps ds (view c.in-Binary.left.value)) (composed_maps ds (view c.in-Binary.right.value)) f a k))

-- ---- four operands

pub returns-in_err-maps_fit-in-Choose-clause-first : goal.returns-in_err-maps_fit-in-Choose-clause-first
returns-in_err-maps_fit-in-Choose-clause-first t c =
    let ds = c.args.under.now in
    let p = err_from_is_err_and c.from_residual-in_err-maps_fit-in-Choose.result c.from_residual-in_err-maps_fit-in-Choose.ensures.1 in
    rw (p.1, p.2, c.in-Choose.is)
    (four_first (composed_maps ds (view c.in-Choose.left.value)) (composed_maps ds (view c.in-Choose.right.value)) (composed_maps ds (view c.in-Choose.yes.value)) (composed_maps ds (view c.in-Choose.no.value)) c.in_err-maps_fit-in-Choose.field-0.0 (rw c.deref-in-Choose.ensures at c.in_err-maps_fit-in-Choose.ensures.first))

pub returns-in_err-maps_fit-in-Choose-2-clause-first : goal.returns-in_err-maps_fit-in-Choose-2-clause-first
returns-in_err-maps_fit-in-Choose-2-clause-first t c =
    let ds = c.args.under.now in
    let p = err_from_is_err_and c.from_residual-in_err-maps_fit-in-Choose-2.result c.from_residual-in_err-maps_fit-in-Choose-2.ensures.1 in
    rw (p.1, p.2, c.in-Choose.is)
    (four_second (composed_maps ds (view c.in-Choose.left.value)) (composed_maps ds (view c.in-Choose.right.value)) (composed_maps ds (view c.in-Choose.yes.value)) (composed_maps ds (view c.in-Choose.no.value)) c.in_err-maps_fit-in-Choose-2.field-0.0 (rw c.deref-in-Choose.ensures at c.in_ok-maps_fit-in-Choose.ensures.narrow)
    (rw c.deref-in-Choose-2.ensures at c.in_err-maps_fit-in-Choose-2.ensures.first))

pub returns-in_err-maps_fit-in-Choose-3-clause-first : goal.returns-in_err-maps_fit-in-Choose-3-clause-first
returns-in_err-maps_fit-in-Choose-3-clause-first t c =
    let ds = c.args.under.now in
    let p = err_from_is_err_and c.from_residual-in_err-maps_fit-in-Choose-3.result c.from_residual-in_err-maps_fit-in-Choose-3.ensures.1 in
    rw (p.1, p.2, c.in-Choose.is)
    (four_third (composed_maps ds (view c.in-Choose.left.value)) (composed_maps ds (view c.in-Choose.right.value)) (composed_maps ds (view c.in-Choose.yes.value)) (composed_maps ds (view c.in-Choose.no.value)) c.in_err-maps_fit-in-Choose-3.field-0.0 (rw c.deref-in-Choose.ensures at c.in_ok-maps_fit-in-Choose.ensures.narrow)
    (rw c.deref-in-Choose-2.ensures at c.in_ok-maps_fit-in-Choose-2.ensures.narrow) (rw c.deref-in-Choose-3.ensures at c.in_err-maps_fit-in-Choose-3.ensures.first))

pub returns-in_ok-maps_fit-in-Choose-3-clause-narrow : goal.returns-in_ok-maps_fit-in-Choose-3-clause-narrow
returns-in_ok-maps_fit-in-Choose-3-clause-narrow t c =
    let ds = c.args.under.now in
    let b = rw c.deref-in-Choose-4.ensures at c.maps_fit-in-Choose-4.ensures.narrow in
    rw c.in-Choose.is (on_ok c.maps_fit-in-Choose-4.result b
    (λ k. four_narrow (composed_maps ds (view c.in-Choose.left.value)) (composed_maps ds (view c.in-Choose.right.value)) (composed_maps ds (view c.in-Choose.yes.value)) (composed_maps ds (view c.in-Choose.no.value)) (rw c.deref-in-Choose.ensures at c.in_ok-maps_fit-in-Choose.ensures.narrow)
    (rw c.deref-in-Choose-2.ensures at c.in_ok-maps_fit-in-Choose-2.ensures.narrow) (rw c.deref-in-Choose-3.ensures at c.in_ok-maps_fit-in-Choose-3.ensures.narrow) k))

pub returns-in_ok-maps_fit-in-Choose-3-clause-first : goal.returns-in_ok-maps_fit-in-Choose-3-clause-first
returns-in_ok-maps_fit-in-Choose-3-clause-first t c =
    let ds = c.args.under.now in
    let b = rw c.deref-in-Choose-4.ensures at c.maps_fit-in-Choose-4.ensures.first in
    rw c.in-Choose.is (if_err c.maps_fit-in-Choose-4.result b
    (λ f k. four_fourth (composed_maps ds (view c.in-Choose.left.value)) (composed_maps ds (view c.in-Choose.right.value)) (composed_maps ds (view c.in-Choose.yes.value)) (composed_maps ds (view c.in-Choose.no.value)) f (rw c.deref-in-Choose.ensures at c.in_ok-maps_fit-in-Choose.ensures.narrow)
    (rw c.deref-in-Choose-2.ensures at c.in_ok-maps_fit-in-Choose-2.ensures.narrow) (rw c.deref-in-Choose-3.ensures at c.in_ok-maps_fit-in-Choose-3.ensures.narrow) k))

-- ---- restrictions

pub returns-in_err-together-in-Restrict-clause-first : goal.returns-in_err-together-in-Restrict-clause-first
returns-in_err-together-in-Restrict-clause-first t c =
    let ds = c.args.under.now in
    let p = err_from_is_err_and c.from_residual-in_err-together-in-Restrict.result c.from_residual-in_err-together-in-Restrict.ensures.1 in
    rw (p.1, p.2, c.in-Restrict.is) (wide_first of_map (steps_under ds) (composed_maps ds (view c.in-Restrict.body.value)) c.in_err-together-in-Restrict.field-0.0 c.in_err-together-in-Restrict.ensures.first)

pub returns-in_ok-together-in-Restrict-clause-narrow : goal.returns-in_ok-together-in-Restrict-clause-narrow
returns-in_ok-together-in-Restrict-clause-narrow t c =
    let ds = c.args.under.now in
    let b = rw c.deref-in-Restrict.ensures at c.maps_fit-in-Restrict.ensures.narrow in
    rw c.in-Restrict.is (on_ok c.maps_fit-in-Restrict.result b (λ k. narrow_append of_map (steps_under ds) (composed_maps ds (view c.in-Restrict.body.value)) c.in_ok-together-in-Restrict.ensures.narrow k))

pub returns-in_ok-together-in-Restrict-clause-first : goal.returns-in_ok-together-in-Restrict-clause-first
returns-in_ok-together-in-Restrict-clause-first t c =
    let ds = c.args.under.now in
    let b = rw c.deref-in-Restrict.ensures at c.maps_fit-in-Restrict.ensures.first in
    rw c.in-Restrict.is (if_err c.maps_fit-in-Restrict.result b (λ f k. wide_second of_map (steps_under ds) (composed_maps ds (view c.in-Restrict.body.value)) f c.in_ok-together-in-Restrict.ensures.narrow k))

-- ---- branches

pub loop-branch-init : goal.loop-branch-init
loop-branch-init t c =
    record { stand = case_stands c.args.under.now c.args.tree.now c.in-Case.branches c.as_slice-branch-items.result.now c.in-Case.is c.as_slice-branch-items.ensures c.requires; narrow = λ h. h; first = λ f h. h }

pub loop-branch-preserved : goal.loop-branch-preserved
loop-branch-preserved t c =
    let ds = c.args.under.now in
    let i = c.loop-branch.branch-index in
    let trees = c.as_slice-branch-items.result.now in
    let l : i < length trees = search rules in
    let next = next_tree ds (trees_of (map view trees)) trees i c.branch-item.result l c.branch-item.is c.loop-branch.invariant in
    one_tree_more ds (trees_of (map view trees)) (view c.branch-item.result) (trees_of (map view (drop (i + 1) trees))) next c.in_ok-maps_fit-in-Case.ensures.narrow

pub returns-in_err-maps_fit-in-Case-clause-first : goal.returns-in_err-maps_fit-in-Case-clause-first
returns-in_err-maps_fit-in-Case-clause-first t c =
    let ds = c.args.under.now in
    let i = c.loop-branch.branch-index in
    let trees = c.as_slice-branch-items.result.now in
    let l : i < length trees = search rules in
    let next = next_tree ds (trees_of (map view trees)) trees i c.branch-item.result l c.branch-item.is c.loop-branch.invariant in
    let p = err_from_is_err_and c.from_residual-in_err-maps_fit-in-Case.result c.from_residual-in_err-maps_fit-in-Case.ensures.1 in
    let e : view c.args.tree.now ≡ _ = ap view c.in-Case.is ∙ view_case c.in-Case.branches ∙ ap (λ (ts : List TreeMade). cases (trees_of (map view ts))) (sym c.as_slice-branch-items.ensures) in
    rw (p.1, p.2, e) (tree_refused ds (trees_of (map view trees)) (view c.branch-item.result) (trees_of (map view (drop (i + 1) trees))) next c.in_err-maps_fit-in-Case.field-0.0 c.in_err-maps_fit-in-Case.ensures.first)

pub returns-after-loop-branch-clause-narrow : goal.returns-after-loop-branch-clause-narrow
returns-after-loop-branch-clause-narrow t c =
    let e : view c.args.tree.now ≡ _ = ap view c.in-Case.is ∙ view_case c.in-Case.branches ∙ ap (λ (ts : List TreeMade). cases (trees_of (map view ts))) (sym c.as_slice-branch-items.ensures) in
    let n = c.loop-branch.invariant.narrow in
    let l : length c.as_slice-branch-items.result.now ≤ c.loop-branch.branch-index = search rules in
    rw e (n (rw (nothing_left c.as_slice-branch-items.result.now c.loop-branch.branch-index l) tt))
