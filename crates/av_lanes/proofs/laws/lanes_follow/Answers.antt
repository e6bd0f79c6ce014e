use Rattle.av_lanes.proofs.Alike.{follow}
use Rattle.av_lanes.proofs.laws.lanes_follow.Goals as goal

pub returns : goal.returns
returns c = follow
