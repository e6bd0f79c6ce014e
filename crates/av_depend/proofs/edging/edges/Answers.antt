use Rattle.std.proofs.Common.{rules, ◌≡◌, ◌≤◌, ◌∙◌, [], Some, length, sym, ap, subst, arith}
use Rattle.std.specs.Prelude.{slice_get}
use Rattle.av_flat.specs.declared.flat.Flat.{Flat}
use Rattle.av_flat.specs.Nodes.{nodes}
use Rattle.av_flat.specs.Trees.{view_system, view_variable}
use Rattle.av_flat.specs.Chained.{IsChained}
use Rattle.av_flat.proofs.NodeNumbers.{chained_node}
use Rattle.av_depend.specs.Sites.{sites_of}
use Rattle.av_depend.specs.inner.Adding.{HasAdded}
use Rattle.av_depend.proofs.Adds.{added_nothing}
use Rattle.av_depend.proofs.Walked.{walked_more, walked_whole}
use Rattle.av_depend.proofs.edging.edges.Goals as goal

pub loop-node-init : goal.loop-node-init
loop-node-init c = let s = view_system c.args.flat.now in subst (HasAdded s [] []) (sym c.new-list.ensures) (added_nothing s [])

pub add_variable-requires : goal.add_variable-requires
add_variable-requires c =
    let chained = subst (λ (f : Flat). IsChained (view_system f)) (sym c.in_ok-nodes.ensures) c.requires.chained in
    chained_node (view_system c.in_ok-nodes.nodes) c.loop-node.node (view_variable c.variable-var.result.now) chained c.variable-var.ensures

pub loop-node-preserved : goal.loop-node-preserved
loop-node-preserved c =
    let s = view_system c.args.flat.now in
    let v = view_variable c.variable-var.result.now in
    let n = c.loop-node.node in
    let is = subst (λ (f : Flat). slice_get (nodes (view_system f)) n ≡ Some v) c.in_ok-nodes.ensures c.variable-var.ensures in
    let one = subst (λ (f : Flat). HasAdded (view_system f) (sites_of n v) c.loop-node.list c.add_variable.new.edges) c.in_ok-nodes.ensures c.in_ok-add_variable.ensures in
    walked_more s n v c.loop-node.list c.add_variable.new.edges is c.loop-node.invariant one

pub returns : goal.returns
returns c =
    let s = view_system c.args.flat.now in
    let over : c.len-count.result ≤ c.loop-node.node = search rules in
    let many = c.len-count.ensures.count ∙ ap (λ (f : Flat). length (nodes (view_system f))) c.in_ok-nodes.ensures in
    walked_whole s c.loop-node.node c.loop-node.list (omega (arith, over, many)) c.loop-node.invariant
