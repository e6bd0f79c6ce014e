use Rattle.av_commands.proofs.LanesPresented.{ArePresenting}
use Rattle.av_commands.proofs.lane_showing.present_in_lanes.Given as goal

abbrev pub invariant-loop-port : goal.invariant-loop-port
invariant-loop-port l = ArePresenting l.fn.lanes.of l.stimuli l.cycle l.port l.fn.lanes l.lanes l.next
