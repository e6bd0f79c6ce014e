use Rattle.av_sched.specs.inner.Vectors.{ArePrepended}
use Rattle.av_sched.proofs.vector.longer.Given as goal

abbrev pub invariant-loop-size : goal.invariant-loop-size
invariant-loop-size l = ArePrepended l.shorter l.size l.to.items
