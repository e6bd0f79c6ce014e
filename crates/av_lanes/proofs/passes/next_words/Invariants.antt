use Rattle.std.proofs.Common.{ℕ, ◌<◌, false}
use Rattle.av_clock.specs.Gates.{AreTaken}
use Rattle.av_clock.specs.Named.{named}
use Rattle.av_lanes.specs.Seen.{lane}
use Rattle.av_lanes.proofs.passes.next_words.Given as goal

abbrev pub invariant-loop-i : goal.invariant-loop-i
invariant-loop-i l = (k : ℕ) → k < 8 → AreTaken l.circuit false (named l.circuit (lane k l.words)) l.i (lane k l.next)
