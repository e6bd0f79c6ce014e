use Rattle.std.proofs.Common.{arith}
use Rattle.std.proofs.lemmas.Grind.{common_steps}
use Rattle.av_depend.proofs.reach.each_reached.Goals as goal

pub loop-from-preserved : goal.loop-from-preserved
loop-from-preserved c = grind (arith, common_steps)

pub loop-from-init : goal.loop-from-init
loop-from-init c = grind (arith, common_steps)
