use Rattle.av_data.proofs.Walked.{AreFixed}
use Rattle.av_data.proofs.missing.behind.Given as goal

abbrev pub invariant-loop-k : goal.invariant-loop-k
invariant-loop-k l = AreFixed l.extent.low l.extent.high l.z l.k l.low l.high
