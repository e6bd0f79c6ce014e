use Rattle.av_lanes.proofs.Vectors.{chosen_lane}
use Rattle.av_lanes.proofs.kernel.chosen.Goals as goal

pub returns : goal.returns
returns c k lt small =
    chosen_lane c.args.condition c.args.first c.args.second c.where_set.result c.fits-first.0 c.fits-first.1 c.fits-second.0 c.fits-second.1 c.where_set.type_inv.1.0.1 k lt small (c.where_set.ensures k lt small)
