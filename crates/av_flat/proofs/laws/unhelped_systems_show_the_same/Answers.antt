use Rattle.av_flat.proofs.Unhelped.{same_meaning}
use Rattle.av_flat.proofs.laws.unhelped_systems_show_the_same.Goals as goal

pub returns : goal.returns
returns c = same_meaning
