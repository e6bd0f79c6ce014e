use Rattle.av_elim.proofs.Boxes.{widest_between}
use Rattle.av_elim.proofs.extent.widest.Goals as goal

pub returns-clause-between : goal.returns-clause-between
returns-clause-between c = widest_between
