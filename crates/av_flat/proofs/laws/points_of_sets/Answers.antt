use Rattle.av_flat.proofs.Sets.{has_is}
use Rattle.av_flat.proofs.laws.points_of_sets.Goals as goal

pub returns : goal.returns
returns c = has_is
