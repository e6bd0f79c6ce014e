use Rattle.std.proofs.Common.{◌≤◌, ◌*◌}
use Rattle.av_flat.specs.Trees.{view_system}
use Rattle.av_space.specs.inner.Laying.{HasCellCount}
use Rattle.av_space.proofs.laying.cell_count.Given as goal

abbrev pub invariant-loop-node : goal.invariant-loop-node
invariant-loop-node l = record {
  number : HasCellCount (view_system l.timed.flat) l.fn.placements 0 l.node l.count;
  some : l.node ≤ l.count;
  fits : l.count ≤ 18446744073709551615 * l.node;
}
