use Rattle.std.proofs.Common.{length}
use Rattle.av_data.proofs.Sentence.{IsAt}
use Rattle.av_data.proofs.binding.entries_in.Given as goal

abbrev pub invariant-loop-sign : goal.invariant-loop-sign
invariant-loop-sign l = IsAt l.text l.entries.kept.items l.entries.far l.rest

abbrev pub decreases-loop-sign : goal.decreases-loop-sign
decreases-loop-sign l = length l.rest
