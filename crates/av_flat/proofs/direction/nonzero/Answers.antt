use Rattle.std.proofs.Common.{arith}
use Rattle.std.proofs.lemmas.Grind.{common_steps}
use Rattle.av_flat.proofs.direction.nonzero.Goals as goal

pub loop-point-preserved : goal.loop-point-preserved
loop-point-preserved c = grind (arith, common_steps)

pub loop-point-preserved-then-is_zero : goal.loop-point-preserved-then-is_zero
loop-point-preserved-then-is_zero c = grind (arith, common_steps)

pub returns : goal.returns
returns c = grind (arith, common_steps)
