use Rattle.std.proofs.Common.{rules, ◌≡◌, ◌∙◌, ◌<◌, ℕ, Some, length, take, true, sym, ap, subst, arith}
use Rattle.std.specs.Prelude.{slice_get, filter}
use Rattle.std.proofs.lemmas.List.{take-map}
use Rattle.std.proofs.lemmas.Grind.{common_steps}
use Rattle.av_flat.specs.Trees.{view_variable, view_system}
use Rattle.av_flat.specs.Nodes.{is_node, nodes}
use Rattle.av_flat.proofs.Cycles.{node_at}
use Rattle.av_flat.proofs.NodeNumbers.{viewed_at}
use Rattle.av_flat.proofs.nodes.place_of.Goals as goal

pub returns-then-count-node-clause-is : goal.returns-then-count-node-clause-is
returns-then-count-node-clause-is c =
    let s = view_system c.args.flat.now in
    let a = c.index-vars-k.result in
    let k = c.loop-k.k in
    let l : k < length c.as_slice-vars.result.now = search rules in
    let at = viewed_at c.args.flat.now c.as_slice-vars.result.now k a c.as_slice-vars.ensures l c.index-vars-k.is in
    let node : c.is_node.result ≡ true = search rules in
    let n = node_at is_node s.variables k (view_variable a) at (sym c.is_node.ensures ∙ node) in
    let q : c.loop-k.count ≡ c.args.node.0 = search rules in
    let e : length (filter is_node (take k s.variables)) ≡ c.args.node.0 = ap (λ xs. length (filter is_node xs)) (take-map view_variable k c.args.flat.now.vars) ∙ sym c.loop-k.invariant.so_far ∙ q in
    subst (λ (i : ℕ). slice_get (nodes s) i ≡ Some (view_variable a)) e n ∙ sym at

pub loop-k-preserved : goal.loop-k-preserved
loop-k-preserved c = grind (arith, common_steps)

pub loop-k-preserved-then-not-is_node : goal.loop-k-preserved-then-not-is_node
loop-k-preserved-then-not-is_node c = grind (arith, common_steps)
