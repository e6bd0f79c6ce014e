use Rattle.av_commands.proofs.LanesFed.{AreColumns}
use Rattle.av_commands.proofs.lane_showing.columns.Given as goal

abbrev pub invariant-loop-k : goal.invariant-loop-k
invariant-loop-k l = AreColumns l.rows l.k l.columns
