use Rattle.av_space.proofs.PointsBefore.{AreFirst}
use Rattle.av_space.proofs.reading.before.Given as goal

abbrev pub invariant-loop-k : goal.invariant-loop-k
invariant-loop-k l = AreFirst l.own l.steps l.k l.entries.items
