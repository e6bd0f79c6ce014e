use Rattle.std.proofs.Common.{arith}
use Rattle.std.proofs.lemmas.Grind.{common_steps}
use Rattle.av_sched.proofs.start.row_of.Goals as goal

pub returns-clause-small : goal.returns-clause-small
returns-clause-small c = grind (arith, common_steps)

pub returns-clause-constant : goal.returns-clause-constant
returns-clause-constant c = grind (arith, common_steps)
