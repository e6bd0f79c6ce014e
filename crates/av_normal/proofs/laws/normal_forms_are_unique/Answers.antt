use Rattle.av_normal.proofs.Unique.{unique}
use Rattle.av_normal.proofs.laws.normal_forms_are_unique.Goals as goal

pub returns : goal.returns
returns c = unique
