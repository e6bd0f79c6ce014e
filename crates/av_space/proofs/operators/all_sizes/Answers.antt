use Rattle.std.proofs.Common.{rules, ◌≤◌, ◌∙◌, ◌++◌, ◌∷◌, [], ℕ, List, map, take, sym, ap, arith}
use Rattle.std.proofs.lemmas.List.{take_all}
use Rattle.std.proofs.lemmas.Option.{slice_get_within, get_or_from_slice_get}
use Rattle.av_depend.proofs.Adds.{map_take_more}
use Rattle.av_flat.specs.Nodes.{nodes}
use Rattle.av_flat.specs.Trees.{view_variable, view_system}
use Rattle.av_space.specs.inner.Counting.{piece_sizes}
use Rattle.av_space.proofs.operators.all_sizes.Goals as goal

pub loop-node-preserved : goal.loop-node-preserved
loop-node-preserved c =
    let all = nodes (view_system c.args.timed.now.flat) in
    let k = c.loop-node.node in
    let v = view_variable c.variable-var.result.now in
    c.in_ok-push.ensures.ok ∙ ap (λ (ns : List (List ℕ)). ns ++ c.in_ok-sizes_of.field-0 ∷ []) c.loop-node.invariant ∙ ap (λ (n : List ℕ). map piece_sizes (take k all) ++ n ∷ []) c.in_ok-sizes_of.ensures
    ∙ sym (map_take_more piece_sizes all k v (slice_get_within all k v c.variable-var.ensures.is) (sym (get_or_from_slice_get all k v v c.variable-var.ensures.is)))

pub returns : goal.returns
returns c =
    let past : c.len-node-end.result ≤ c.loop-node.node = search rules in
    let count = c.len-node-end.ensures.count in
    c.loop-node.invariant ∙ ap (map piece_sizes) (take_all c.loop-node.node (nodes (view_system c.args.timed.now.flat)) (omega (arith, count, past)))
