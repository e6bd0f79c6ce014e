use Rattle.std.proofs.Common.{arith}
use Rattle.std.proofs.lemmas.Grind.{common_steps}
use Rattle.av_flat.proofs.direction.staying.Goals as goal

pub loop-point-preserved : goal.loop-point-preserved
loop-point-preserved c = grind (arith, common_steps)

pub loop-point-preserved-then-not-stays : goal.loop-point-preserved-then-not-stays
loop-point-preserved-then-not-stays c = grind (arith, common_steps)
