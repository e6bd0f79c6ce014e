use Rattle.av_space.proofs.SameArray.{same_fault}
use Rattle.av_space.proofs.laws.same_systems_have_the_same_faults.Goals as goal

pub returns : goal.returns
returns c = same_fault
