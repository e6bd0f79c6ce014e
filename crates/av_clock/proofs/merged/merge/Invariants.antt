use Rattle.av_clock.proofs.Merging.{SoFar}
use Rattle.av_clock.proofs.merged.merge.Given as goal

abbrev pub invariant-loop-assignment : goal.invariant-loop-assignment
invariant-loop-assignment l = SoFar l.of l.assignment-index l.sources l.merged.items
