use Rattle.av_build.proofs.SortingSteps.{AreSameUpTo}
use Rattle.av_build.proofs.sorting.same_pieces.Given as goal

abbrev pub invariant-loop-k : goal.invariant-loop-k
invariant-loop-k l = AreSameUpTo l.a l.b l.k
