use Rattle.std.proofs.Common.{take}
use Rattle.av_sched.specs.inner.Walk.{AreArcsInside}
use Rattle.av_sched.proofs.leaf.arcs_inside.Given as goal

abbrev pub invariant-loop-edge : goal.invariant-loop-edge
invariant-loop-edge l = AreArcsInside l.linear (take l.edge-index l.edges) l.component l.arcs.items
