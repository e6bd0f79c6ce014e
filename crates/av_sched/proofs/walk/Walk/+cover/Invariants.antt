use Rattle.std.proofs.Common.{take, length, ◌-◌}
use Rattle.av_sched.proofs.Covering.{IsCovering}
use Rattle.av_sched.proofs.walk.Walk.+cover.Given as goal

abbrev pub decreases-cover : goal.decreases-cover
decreases-cover l = length l.self.now.choices.component - l.level

abbrev pub invariant-loop-k : goal.invariant-loop-k
invariant-loop-k l = IsCovering l.initial.self l.level (take l.k l.parts) l.self
