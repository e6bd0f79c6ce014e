use Rattle.std.proofs.Common.{◌-◌, length}
use Rattle.av_flat.specs.Trees.{view_system}
use Rattle.av_space.proofs.Laid.{AreLaid}
use Rattle.av_space.proofs.laying.add_node.Given as goal

abbrev pub invariant-loop-start : goal.invariant-loop-start
invariant-loop-start l = AreLaid (view_system l.timed.flat) l.node.0 l.placement l.ranked l.start l.fn.cells l.fn.slots l.cells l.slots

abbrev pub decreases-loop-start : goal.decreases-loop-start
decreases-loop-start l = length l.ranked - l.start
