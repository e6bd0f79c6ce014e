use Rattle.av_lanes.proofs.Vectors.{low_lane}
use Rattle.av_lanes.proofs.kernel.masked.Goals as goal

pub returns : goal.returns
returns c w is k lt = low_lane c.args.numbers c.args.mask w is c.fits-numbers.0 k lt
