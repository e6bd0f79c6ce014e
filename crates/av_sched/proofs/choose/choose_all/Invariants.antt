use Rattle.std.proofs.Common.{take}
use Rattle.av_flat.specs.Trees.{view_system}
use Rattle.av_sched.specs.inner.FirstChoices.{AreFirstChoices}
use Rattle.av_sched.proofs.choose.choose_all.Given as goal

abbrev pub invariant-loop-k : goal.invariant-loop-k
invariant-loop-k l = AreFirstChoices (view_system l.flat) l.reach.size (take l.k l.components) l.linear.items
