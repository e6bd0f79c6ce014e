use Rattle.std.proofs.Common.{map}
use Rattle.av_commands.proofs.LanesFed.{AreFed}
use Rattle.av_commands.proofs.lane_showing.feed_sets.Given as goal

abbrev pub invariant-loop-set : goal.invariant-loop-set
invariant-loop-set g l = AreFed l.design l.cycles (map g.D.Data.words l.sets) l.set-index l.stimuli
