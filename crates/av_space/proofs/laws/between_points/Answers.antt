use Rattle.av_space.proofs.Placed.{between_points}
use Rattle.av_space.proofs.laws.between_points.Goals as goal

pub returns : goal.returns
returns c = between_points
