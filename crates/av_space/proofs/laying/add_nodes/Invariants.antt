use Rattle.av_flat.specs.Trees.{view_system}
use Rattle.av_space.specs.inner.Laying.{AreCellsIn, AreFilled}
use Rattle.av_space.proofs.laying.add_nodes.Given as goal

abbrev pub invariant-loop-node : goal.invariant-loop-node
invariant-loop-node l = record {
  are : AreCellsIn (view_system l.timed.flat) l.fn.placements 0 l.node l.cells;
  filled : AreFilled (view_system l.timed.flat) l.fn.placements l.cells l.slots;
}
