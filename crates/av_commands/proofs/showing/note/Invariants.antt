use Rattle.std.proofs.Common.{◌≡◌, length}
use Rattle.av_clock.specs.Seen.{carried}
use Rattle.av_commands.specs.inner.Watching.{bits_of}
use Rattle.av_commands.proofs.Watched.{mixed}
use Rattle.av_commands.proofs.showing.note.Given as goal

abbrev pub invariant-loop-k : goal.invariant-loop-k
invariant-loop-k l = (bits_of l.words ≡ mixed (carried l.clock) l.cycle l.k l.lines (bits_of l.fn.words)) × (length l.words ≡ length l.fn.words)
