use Rattle.std.proofs.Common.{◌≡◌, take}
use Rattle.std.specs.List.{sum}
use Rattle.av_base.specs.Words.{residue}
use Rattle.av_commands.specs.inner.Watching.{bits_of}
use Rattle.av_commands.proofs.demos.total_of.Given as goal

abbrev pub invariant-loop-word : goal.invariant-loop-word
invariant-loop-word l = l.total.bits ≡ residue l.width.bits (sum (bits_of (take l.word-index l.words)))
