use Rattle.av_kinds.specs.Counters.{count_in}
use Rattle.av_build.proofs.OrderSteps.{AreHigh}
use Rattle.av_build.proofs.order.before_start.Given as goal

abbrev pub invariant-loop-k : goal.invariant-loop-k
invariant-loop-k l = AreHigh (count_in l.counter) l.slots l.least l.k
