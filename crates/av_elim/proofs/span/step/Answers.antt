use Rattle.std.proofs.Common.{arith}
use Rattle.std.proofs.lemmas.Grind.{common_steps}
use Rattle.av_elim.proofs.span.step.Goals as goal

pub returns-then-a-gt0 : goal.returns-then-a-gt0
returns-then-a-gt0 c = grind (arith, common_steps)

pub returns-else-a-gt0 : goal.returns-else-a-gt0
returns-else-a-gt0 c = grind (arith, common_steps)
