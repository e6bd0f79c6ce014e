use Rattle.av_build.proofs.SortingSteps.{AreKindsTo}
use Rattle.av_build.proofs.sorting.kinds_of.Given as goal

abbrev pub invariant-loop-number : goal.invariant-loop-number
invariant-loop-number l = AreKindsTo l.cells l.firsts l.kinds l.number
