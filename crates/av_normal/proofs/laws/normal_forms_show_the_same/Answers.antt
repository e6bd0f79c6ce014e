use Rattle.av_normal.proofs.Systems.{same_meaning}
use Rattle.av_normal.proofs.laws.normal_forms_show_the_same.Goals as goal

pub returns : goal.returns
returns c = same_meaning
