use Rattle.std.proofs.Common.{arith}
use Rattle.std.proofs.lemmas.Grind.{common_steps}
use Rattle.av_sched.proofs.start.middle_of.Goals as goal

pub returns-clause-below : goal.returns-clause-below
returns-clause-below c = grind (arith, common_steps)

pub returns-clause-above : goal.returns-clause-above
returns-clause-above c = grind (arith, common_steps)
