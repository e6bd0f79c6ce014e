use Rattle.av_commands.proofs.LanesWatched.{AreWatching}
use Rattle.av_commands.proofs.lane_showing.clock_lanes_and_note.Given as goal

abbrev pub invariant-loop-cycle : goal.invariant-loop-cycle
invariant-loop-cycle l = AreWatching l.fn.lanes.of l.stimuli l.lines l.cycle l.lanes l.next l.rows
