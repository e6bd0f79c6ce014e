use Rattle.av_sched.specs.inner.Vectors.{AreVectorsOf}
use Rattle.av_sched.proofs.vector.box_vectors.Given as goal

abbrev pub invariant-loop-k : goal.invariant-loop-k
invariant-loop-k l = AreVectorsOf l.reach.size l._k l.all.items
