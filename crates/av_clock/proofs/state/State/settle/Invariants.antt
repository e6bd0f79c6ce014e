use Rattle.av_clock.proofs.Computing.{Computes}
use Rattle.av_clock.proofs.state.State.settle.Given as goal

abbrev pub invariant-loop-assignment : goal.invariant-loop-assignment
invariant-loop-assignment l = Computes l.fn.self.circuit l.assignment-items l.fn.self.words.items l.words l.assignment-index
