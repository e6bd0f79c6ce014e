use Rattle.std.proofs.Common.{sym}
use Rattle.av_lanes.proofs.ByLane.{lane_in}
use Rattle.av_lanes.proofs.gates.word_at.Goals as goal

pub returns : goal.returns
returns c k lt = sym (lane_in k c.args.words.now c.args.place _ c.requires)
