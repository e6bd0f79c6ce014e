use Rattle.std.proofs.Common.{unsigned_abs, ◌-ℤ◌}
use Rattle.av_sched.specs.inner.Starts.{IsSpanned}
use Rattle.av_sched.proofs.start.least_value.Given as goal

abbrev pub decreases-loop-low : goal.decreases-loop-low
decreases-loop-low l = unsigned_abs (l.value -ℤ l.low)

abbrev pub invariant-loop-low : goal.invariant-loop-low
invariant-loop-low l = IsSpanned l.domain l.linear l.low l.value
