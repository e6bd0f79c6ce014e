use Rattle.av_space.proofs.Placed.{one_point}
use Rattle.av_space.proofs.laws.one_point.Goals as goal

pub returns : goal.returns
returns c = one_point
