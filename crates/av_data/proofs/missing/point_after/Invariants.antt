use Rattle.std.proofs.Common.{length, ◌≤◌}
use Rattle.av_data.proofs.Walked.{NoneFrom}
use Rattle.av_data.proofs.missing.point_after.Given as goal

abbrev pub invariant-loop-index : goal.invariant-loop-index
invariant-loop-index l = (l.index ≤ length l.z) × NoneFrom l.set l.z l.index

abbrev pub decreases-loop-index : goal.decreases-loop-index
decreases-loop-index l = l.index
