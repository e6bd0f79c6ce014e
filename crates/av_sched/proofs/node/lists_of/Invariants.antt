use Rattle.av_flat.specs.Trees.{view_system}
use Rattle.av_sched.specs.inner.Walk.{AreAllPartsTo}
use Rattle.av_sched.proofs.node.lists_of.Given as goal

abbrev pub invariant-loop-k : goal.invariant-loop-k
invariant-loop-k l = AreAllPartsTo (view_system l.fn.flat) l.fn.reach.size l.component l.k l.lists
