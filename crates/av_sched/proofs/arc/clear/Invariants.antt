use Rattle.std.proofs.Common.{◌≡◌}
use Rattle.av_sched.specs.inner.Rounds.{zeros}
use Rattle.av_sched.proofs.arc.clear.Given as goal

abbrev pub invariant-loop-k : goal.invariant-loop-k
invariant-loop-k l = l.numbers.items ≡ zeros l._k
