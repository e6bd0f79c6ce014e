use Rattle.std.proofs.Common.{length, ◌-◌}
use Rattle.av_data.proofs.Divided.{Walks}
use Rattle.av_data.proofs.division.divide.Given as goal

abbrev pub invariant-loop-at : goal.invariant-loop-at
invariant-loop-at l = Walks l.bytes l.at l.lines

abbrev pub decreases-loop-at : goal.decreases-loop-at
decreases-loop-at l = length l.bytes - l.at
