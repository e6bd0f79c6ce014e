use Rattle.std.proofs.Common.{◌-◌, length}
use Rattle.av_space.proofs.Laid.{AreCounted}
use Rattle.av_space.proofs.laying.node_cells.Given as goal

abbrev pub invariant-loop-start : goal.invariant-loop-start
invariant-loop-start l = AreCounted l.fn.node.0 l.placement l.ranked l.start l.count

abbrev pub decreases-loop-start : goal.decreases-loop-start
decreases-loop-start l = length l.ranked - l.start
