use Rattle.av_clock.specs.Merged.{merged}
use Rattle.av_clock.specs.Readers.{HaveSteps}
use Rattle.av_clock.proofs.readers.steps_reading.Given as goal

abbrev pub invariant-loop-i : goal.invariant-loop-i
invariant-loop-i l = HaveSteps (merged l.of l.merged.sources.items) l.i l.lists.items
