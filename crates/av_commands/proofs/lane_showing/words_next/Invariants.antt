use Rattle.av_commands.proofs.LanesPresented.{AreRead}
use Rattle.av_commands.proofs.lane_showing.words_next.Given as goal

abbrev pub invariant-loop-k : goal.invariant-loop-k
invariant-loop-k l = AreRead l.stimuli l.cycle l.port l.fn.next l.k l.next l.words
