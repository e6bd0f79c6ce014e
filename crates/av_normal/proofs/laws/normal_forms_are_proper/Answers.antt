use Rattle.av_normal.proofs.Systems.{proper}
use Rattle.av_normal.proofs.laws.normal_forms_are_proper.Goals as goal

pub returns : goal.returns
returns c = proper
