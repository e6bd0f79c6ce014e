use Rattle.std.proofs.Common.{◌∙◌, ◌++◌, ◌∷◌, [], ℕ, List, length, sym, ap, arith, zero-add}
use Rattle.std.specs.List.{range_with_len}
use Rattle.std.proofs.lemmas.List.FromFn.{length-range_with_len}
use Rattle.av_flat.specs.declared.flat.Flat.{Flat}
use Rattle.av_flat.specs.Nodes.{nodes}
use Rattle.av_flat.specs.Trees.{view_system}
use Rattle.av_best.proofs.Every.{range_push}
use Rattle.av_best.proofs.joint.all_nodes.Goals as goal

pub loop-node-preserved : goal.loop-node-preserved
loop-node-preserved c =
    let n = c.loop-node.node in
    c.in_ok-push.ensures.items ∙ ap (λ (ns : List ℕ). ns ++ n ∷ []) c.loop-node.invariant ∙ sym (range_push 0 n n (zero-add n))

pub returns-clause-are : goal.returns-clause-are
returns-clause-are c =
    let many = c.len-node-end.ensures.count ∙ ap (λ (f : Flat). length (nodes (view_system f))) c.in_ok-found.ensures in
    c.loop-node.invariant ∙ ap (range_with_len 0) (omega (arith, c.loop-node-test.false, c.loop-node.auto.node-end, many))

pub returns-clause-few : goal.returns-clause-few
returns-clause-few c =
    let size = ap length c.loop-node.invariant ∙ length-range_with_len 0 c.loop-node.node in
    omega (arith, size, c.len-node-end.ensures.most, c.loop-node.auto.node-end)
