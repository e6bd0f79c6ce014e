use Rattle.std.proofs.Common.{rules, ◌≡◌, ◌∙◌, ◌<◌, ◌++◌, ◌∷◌, [], length, sym, ap, arith, true, false, List, ℕ, map}
use Rattle.std.specs.List.{range_with_len}
use Rattle.std.proofs.lemmas.List.FromFn.{map-range_with_len_more}
use Rattle.std.proofs.lemmas.List.{length-map}
use Rattle.av_flat.specs.declared.flat.Var.{Var}
use Rattle.av_flat.specs.Trees.{view_system, view_variable}
use Rattle.av_flat.specs.Nodes.{is_node, number_at, node_place}
use Rattle.av_flat.proofs.NodeNumbers.{viewed_at, number_more, number_same, own_place, number_whole}
use Rattle.av_flat.proofs.nodes.places.Goals as goal

pub loop-place-preserved-then-not-is_node : goal.loop-place-preserved-then-not-is_node
loop-place-preserved-then-not-is_node c =
    let s = view_system c.args.flat.now in
    let x = c.index-vars-place.result in
    let place = c.loop-place.place in
    let l : place < length c.as_slice-vars.result.now = search rules in
    let at = viewed_at c.args.flat.now c.as_slice-vars.result.now place x c.as_slice-vars.ensures l c.index-vars-place.is in
    let f : c.is_node.result ≡ false = search rules in
    let t : is_node (view_variable x) ≡ false = sym c.is_node.ensures ∙ f in
    c.loop-place.invariant ∙ ap (λ (n : ℕ). map (node_place s) (range_with_len 0 n)) (sym (number_same s place (view_variable x) at t))

pub loop-place-preserved : goal.loop-place-preserved
loop-place-preserved c =
    let s = view_system c.args.flat.now in
    let x = c.index-vars-place.result in
    let place = c.loop-place.place in
    let l : place < length c.as_slice-vars.result.now = search rules in
    let at = viewed_at c.args.flat.now c.as_slice-vars.result.now place x c.as_slice-vars.ensures l c.index-vars-place.is in
    let f : c.is_node.result ≡ true = search rules in
    let t : is_node (view_variable x) ≡ true = sym c.is_node.ensures ∙ f in
    let n = number_at s place in
    c.in_ok-push.ensures.ok ∙ ap (λ (ks : List ℕ). ks ++ place ∷ []) c.loop-place.invariant
    ∙ ap (λ (k : ℕ). map (node_place s) (range_with_len 0 n) ++ k ∷ []) (sym (own_place s place (view_variable x) at t))
    ∙ sym (map-range_with_len_more (node_place s) 0 n n (omega arith))
    ∙ ap (λ (k : ℕ). map (node_place s) (range_with_len 0 k)) (sym (number_more s place (view_variable x) at t))

pub returns : goal.returns
returns c =
    let s = view_system c.args.flat.now in
    let e = ap (λ (xs : List Var). length xs) c.as_slice-vars.ensures in
    let m : length s.variables ≡ length c.args.flat.now.vars = length-map c.args.flat.now.vars view_variable in
    let t = c.loop-place-test.false in
    c.loop-place.invariant ∙ ap (λ (n : ℕ). map (node_place s) (range_with_len 0 n)) (number_whole s c.loop-place.place (omega (arith, e, m, t)))
