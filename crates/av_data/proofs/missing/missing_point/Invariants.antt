use Rattle.av_data.proofs.Missed.{IsReached}
use Rattle.av_data.proofs.Walked.{left_behind}
use Rattle.av_data.proofs.missing.missing_point.Given as goal

abbrev pub invariant-loop-next : goal.invariant-loop-next
invariant-loop-next l = IsReached l.words l.place.0 l.domain l.next

abbrev pub decreases-loop-next : goal.decreases-loop-next
decreases-loop-next l = left_behind l.next
