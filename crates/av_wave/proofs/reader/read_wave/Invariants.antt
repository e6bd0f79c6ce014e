use Rattle.std.proofs.Common.{◌≤◌, ◌-◌, length}
use Rattle.av_wave.specs.inner.Stages.{Knows}
use Rattle.av_wave.proofs.Faults.{IsRead}
use Rattle.av_wave.proofs.reader.read_wave.Given as goal

abbrev pub invariant-loop-at : goal.invariant-loop-at
invariant-loop-at l = IsRead l.bytes l.at l.line l.stage × (l.at ≤ length l.bytes) × Knows l.stage l.names

abbrev pub decreases-loop-at : goal.decreases-loop-at
decreases-loop-at l = length l.bytes - l.at
