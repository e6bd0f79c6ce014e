use Rattle.std.proofs.Common.{◌≡◌}
use Rattle.av_sched.specs.inner.Rounds.{zeros}
use Rattle.av_sched.proofs.leaf.no_offsets.Given as goal

abbrev pub invariant-loop-k : goal.invariant-loop-k
invariant-loop-k l = l.low ≡ zeros l._k
