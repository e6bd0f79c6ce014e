use Rattle.std.proofs.Common.{rules, ◌+◌, ◌≤◌, List, length, subst, arith}
use Rattle.std.proofs.lemmas.Option.{slice_get_within}
use Rattle.std.proofs.lemmas.Grind.{common_steps}
use Rattle.av_flat.specs.Nodes.{nodes}
use Rattle.av_flat.specs.Trees.{view_system}
use Rattle.av_space.specs.declared.cells.Cell.{Cell}
use Rattle.av_space.specs.inner.Feeding.{IsFirstOf}
use Rattle.av_space.proofs.Fed.{all_ports}
use Rattle.av_space.proofs.ports.add_nodes.Goals as goal

pub add_node-requires-clause-cells : goal.add_node-requires-clause-cells
add_node-requires-clause-cells c =
    let last = c.end_of-last in
    let is = c.cells-cells.ensures.is in
    record {
      first = c.loop-node.invariant.1;
      last = subst (λ (cells : List Cell). IsFirstOf cells (c.loop-node.node + 1) last.result) is last.ensures.last;
      ordered = last.ensures.ordered;
      within = subst (λ (cells : List Cell). last.result ≤ length cells) is last.ensures.within;
    }

pub returns-clause-ports : goal.returns-clause-ports
returns-clause-ports c =
    let t = c.args.scheduled.now.timed in
    let l = c.args.scheduled.now.layout in
    let s = view_system t.flat in
    let over : c.node_count-node-end.result ≤ c.loop-node.node = search rules in
    let many : length (nodes s) ≤ c.loop-node.node = (let count = c.node_count-node-end.ensures in omega (arith, over, count)) in
    all_ports s t.helpers l.placements l.cells c.loop-node.node c.loop-node.first c.loop-node.ports
    (λ port is. let a = slice_get_within (nodes s) is.4.node is.4.variable is.4.is_variable in omega (arith, a, many)) c.loop-node.invariant.0

pub loop-node-preserved : goal.loop-node-preserved
loop-node-preserved c = grind (arith, common_steps)
