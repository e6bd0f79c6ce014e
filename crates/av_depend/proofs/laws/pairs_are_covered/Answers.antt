use Rattle.av_depend.proofs.Pairs.{covered}
use Rattle.av_depend.proofs.laws.pairs_are_covered.Goals as goal

pub returns : goal.returns
returns c = covered
