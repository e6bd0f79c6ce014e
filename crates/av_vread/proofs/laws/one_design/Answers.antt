use Rattle.av_vread.proofs.Faulted.{one_design}
use Rattle.av_vread.proofs.laws.one_design.Goals as goal

pub returns : goal.returns
returns c = one_design
