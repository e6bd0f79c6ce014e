use Rattle.std.proofs.Common.{◌≡◌, ◌<◌, ℕ, true, slice_index}
use Rattle.av_net.specs.Meaning.{Words}
use Rattle.av_clock.specs.Gates.{AreTaken}
use Rattle.av_lanes.specs.Seen.{lane}
use Rattle.av_lanes.proofs.passes.reset_words.Given as goal

abbrev pub invariant-loop-i : goal.invariant-loop-i
invariant-loop-i l = ((k : ℕ) → k < 8 → (old : Words) → AreTaken l.circuit true old l.i (lane k l.next)) × ((j : ℕ) → j < l.i → slice_index l.taken j ≡ j)
