use Rattle.std.proofs.Common.{◌≡◌, ◌≤◌, take, length, map}
use Rattle.std.specs.Prelude.{filter}
use Rattle.av_flat.specs.Trees.{view_variable}
use Rattle.av_flat.specs.Nodes.{is_node}
use Rattle.av_flat.proofs.nodes.place_of.Given as goal

abbrev pub invariant-loop-k : goal.invariant-loop-k
invariant-loop-k l = record {
  so_far : l.count ≡ length (filter is_node (map view_variable (take l.k l.fn.flat.vars)));
  small : l.count ≤ l.k;
  before : l.count ≤ l.node.0;
}
