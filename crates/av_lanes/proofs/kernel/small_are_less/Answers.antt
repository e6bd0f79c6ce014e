use Rattle.av_lanes.proofs.Vectors.{small_lane}
use Rattle.av_lanes.proofs.kernel.small_are_less.Goals as goal

pub returns : goal.returns
returns c k lt fx fy = small_lane c.args.left c.args.right c.fits-left.0 c.fits-right.0 k lt fx fy
