use Rattle.std.proofs.Common.{rules, ◌≡◌, ◌∙◌, ◌<◌, ◌++◌, ◌∷◌, [], length, sym, ap, arith, true, false, List, ℕ, map}
use Rattle.std.specs.List.{range_with_len}
use Rattle.std.proofs.lemmas.List.{length-map}
use Rattle.std.proofs.lemmas.List.FromFn.{map-range_with_len_more}
use Rattle.av_flat.specs.declared.flat.Var.{Var}
use Rattle.av_flat.specs.Trees.{view_system, view_variable}
use Rattle.av_flat.specs.Nodes.{is_node, number_at}
use Rattle.av_flat.proofs.NodeNumbers.{viewed_at, number_more, number_same}
use Rattle.av_flat.proofs.nodes.numbers.Goals as goal
use Rattle.av_flat.proofs.nodes.numbers.Goals.{then-is_node, else-is_node}

pub loop-place-preserved : goal.loop-place-preserved
loop-place-preserved c =
    let s = view_system c.args.flat.now in
    let x = c.index-vars-place.result in
    let place = c.loop-place.place in
    let l : place < length c.as_slice-vars.result.now = search rules in
    let at = viewed_at c.args.flat.now c.as_slice-vars.result.now place x c.as_slice-vars.ensures l c.index-vars-place.is in
    let so_far = c.in_ok-push.ensures.ok ∙ ap (λ (k : ℕ). c.loop-place.to ++ k ∷ []) c.loop-place.invariant.counted ∙ ap (λ (ks : List ℕ). ks ++ number_at s place ∷ []) c.loop-place.invariant.so_far
    ∙ sym (map-range_with_len_more (number_at s) 0 place place (omega arith)) in
    let small = c.loop-place.invariant.small in
    let counted = c.loop-place.invariant.counted in
    elim c.if-is_node.branch [
      | then-is_node w ↦ (
          let t : is_node (view_variable x) ≡ true = sym c.is_node.ensures ∙ w.if-is_node.true in
          let more = number_more s place (view_variable x) at t in
          let n = w.number-is in
          record { so_far = so_far; counted = omega (arith, n, more, counted); small = omega (arith, n, small) })
      | else-is_node w ↦ (
          let t : is_node (view_variable x) ≡ false = sym c.is_node.ensures ∙ w.if-is_node.false in
          let same = number_same s place (view_variable x) at t in
          let n = w.number-is in
          record { so_far = so_far; counted = omega (arith, n, same, counted); small = omega (arith, n, small) })
    ]

pub returns : goal.returns
returns c =
    let s = view_system c.args.flat.now in
    let e = ap (λ (xs : List Var). length xs) c.as_slice-vars.ensures in
    let m : length s.variables ≡ length c.args.flat.now.vars = length-map c.args.flat.now.vars view_variable in
    let t = c.loop-place-test.false in
    let u = c.loop-place.auto.place-end in
    c.loop-place.invariant.so_far ∙ ap (λ (n : ℕ). map (number_at s) (range_with_len 0 n)) (omega (arith, e, m, t, u))
