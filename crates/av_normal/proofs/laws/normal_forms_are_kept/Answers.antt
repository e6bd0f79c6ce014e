use Rattle.av_normal.proofs.KeptSystems.{kept}
use Rattle.av_normal.proofs.laws.normal_forms_are_kept.Goals as goal

pub returns : goal.returns
returns c = kept
