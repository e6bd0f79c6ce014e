use Rattle.std.proofs.Common.{arith}
use Rattle.std.proofs.lemmas.Grind.{common_steps}
use Rattle.av_flat.proofs.copy.copy_variables.Goals as goal

pub loop-var-preserved : goal.loop-var-preserved
loop-var-preserved c = grind (arith, common_steps)
