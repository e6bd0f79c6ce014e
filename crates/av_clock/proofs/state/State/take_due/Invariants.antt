use Rattle.std.proofs.Common.{◌-◌, length}
use Rattle.av_clock.proofs.Taking.{Takes}
use Rattle.av_clock.proofs.state.State.take_due.Given as goal

abbrev pub invariant-loop-step : goal.invariant-loop-step
invariant-loop-step l = Takes l.fn.self.circuit l.fn.self.words.items l.fn.self.due l.due l.taken l.next l.count l.step

abbrev pub decreases-loop-step : goal.decreases-loop-step
decreases-loop-step l = length l.fn.self.circuit.steps - l.step
