use Rattle.av_lanes.proofs.Vectors.{set_lane}
use Rattle.av_lanes.proofs.kernel.where_set.Goals as goal

pub returns : goal.returns
returns c k lt small = set_lane c.args.bits c.args.words c.fits-bits.0 c.fits-words.0 c.fits-words.1 k lt small
