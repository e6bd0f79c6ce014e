use Rattle.std.proofs.Common.{length, ◌<◌}
use Rattle.av_sched.proofs.pool.least_point.Given as goal

abbrev pub invariant-loop-k : goal.invariant-loop-k
invariant-loop-k l = l.number < length l.edge.points
