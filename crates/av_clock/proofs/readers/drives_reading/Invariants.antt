use Rattle.av_clock.specs.Merged.{merged}
use Rattle.av_clock.specs.Readers.{HaveDrives}
use Rattle.av_clock.proofs.readers.drives_reading.Given as goal

abbrev pub invariant-loop-i : goal.invariant-loop-i
invariant-loop-i l = HaveDrives (merged l.of l.merged.sources.items) l.i l.lists.items
