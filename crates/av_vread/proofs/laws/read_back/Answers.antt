use Rattle.av_vread.proofs.RoundTrip.{plan_read_back, read_back}
use Rattle.av_vread.proofs.laws.read_back.Goals as goal

pub returns-clause-design : goal.returns-clause-design
returns-clause-design c = read_back

pub returns-clause-plan : goal.returns-clause-plan
returns-clause-plan c = plan_read_back
