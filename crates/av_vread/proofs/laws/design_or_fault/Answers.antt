use Rattle.av_vread.proofs.Faulted.{either, not_both}
use Rattle.av_vread.proofs.laws.design_or_fault.Goals as goal

pub returns-clause-either : goal.returns-clause-either
returns-clause-either c = either

pub returns-clause-not_both : goal.returns-clause-not_both
returns-clause-not_both c = not_both
