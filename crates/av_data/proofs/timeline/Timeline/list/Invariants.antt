use Rattle.std.proofs.Common.{◌≡◌, ◌++◌, map}
use Rattle.av_data.specs.Kept.{entry_given}
use Rattle.av_data.proofs.timeline.Timeline.list.Given as goal

abbrev pub invariant-loop-cycle : goal.invariant-loop-cycle
invariant-loop-cycle l = l.list ++ map entry_given l.cycle-iterator ≡ l.self
