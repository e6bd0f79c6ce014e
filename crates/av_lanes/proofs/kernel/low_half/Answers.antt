use Rattle.std.proofs.Common.{refl}
use Rattle.av_lanes.proofs.Vectors.{low_lane}
use Rattle.av_lanes.proofs.kernel.low_half.Goals as goal

pub returns : goal.returns
returns c k lt = low_lane c.args.words 4294967295 32 refl c.fits-words.0 k lt
