use Rattle.std.proofs.Common.{false}
use Rattle.av_clock.specs.Gates.{AreTaken}
use Rattle.av_clock.specs.inner.State.{named_words}
use Rattle.av_clock.proofs.state.State.next_words.Given as goal

abbrev pub invariant-loop-i : goal.invariant-loop-i
invariant-loop-i l = AreTaken l.fn.self.circuit false (named_words l.fn.self) l.i l.next
