use Rattle.av_lanes.proofs.Vectors.{most_lane}
use Rattle.av_lanes.proofs.kernel.are_at_most.Goals as goal

pub returns : goal.returns
returns c k lt fx fy = most_lane c.args.left c.args.right c.are_less.result c.are_less.type_inv.1.0.1 k lt (c.are_less.ensures k lt fy fx)
