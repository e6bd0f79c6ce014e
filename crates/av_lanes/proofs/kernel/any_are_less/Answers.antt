use Rattle.std.proofs.Common.{ltb}
use Rattle.av_lanes.proofs.Vectors.{tested_lane}
use Rattle.av_lanes.proofs.kernel.any_are_less.Goals as goal

pub returns : goal.returns
returns c k lt = tested_lane ltb c.args.left c.args.right c.fits-left.0 c.fits-right.0 k lt
