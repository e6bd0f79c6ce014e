use Rattle.av_commands.proofs.Watching.{IsWatching}
use Rattle.av_commands.proofs.showing.clock_and_note.Given as goal

abbrev pub invariant-loop-cycle : goal.invariant-loop-cycle
invariant-loop-cycle l = IsWatching l.fn.clock.of l.stimulus l.lines l.inputs l.cycle l.clock l.next l.ports l.words
