use Rattle.av_sched.specs.inner.Vectors.{AreLinearPartsTo}
use Rattle.av_sched.proofs.vector.vectors.Given as goal

abbrev pub invariant-loop-point : goal.invariant-loop-point
invariant-loop-point l = AreLinearPartsTo l.fn.reach.size l.dim l.point-items l.point-index l.list
