use Rattle.av_depend.proofs.Pairs.{listed}
use Rattle.av_depend.proofs.laws.listed_points_have_pairs.Goals as goal

pub returns : goal.returns
returns c = listed
