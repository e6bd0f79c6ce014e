use Rattle.std.proofs.Common.{◌≡◌, ◌<◌, ℕ, true, slice_index}
use Rattle.av_net.specs.Meaning.{Words}
use Rattle.av_clock.specs.Gates.{AreTaken}
use Rattle.av_clock.proofs.state.State.reset_words.Given as goal

abbrev pub invariant-loop-i : goal.invariant-loop-i
invariant-loop-i l = ((old : Words) → AreTaken l.fn.self.circuit true old l.i l.next) × ((j : ℕ) → j < l.i → slice_index l.taken j ≡ j)
