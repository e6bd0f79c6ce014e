use Rattle.std.proofs.Common.{ℕ, ◌<◌, ◌-◌, length}
use Rattle.av_clock.proofs.Taking.{Takes}
use Rattle.av_lanes.specs.Seen.{lane}
use Rattle.av_lanes.proofs.passes.take_due.Given as goal

abbrev pub invariant-loop-step : goal.invariant-loop-step
invariant-loop-step l = (k : ℕ) → k < 8 → Takes l.circuit (lane k l.words) l.fn.due l.due l.taken (lane k l.next) l.count l.step

abbrev pub decreases-loop-step : goal.decreases-loop-step
decreases-loop-step l = length l.circuit.steps - l.step
