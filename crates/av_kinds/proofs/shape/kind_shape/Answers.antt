use Rattle.std.proofs.Common.{arith}
use Rattle.std.proofs.lemmas.Grind.{common_steps}
use Rattle.av_kinds.proofs.shape.kind_shape.Goals as goal

pub loop-lane-preserved : goal.loop-lane-preserved
loop-lane-preserved c = grind (arith, common_steps)

pub returns : goal.returns
returns c = grind (arith, common_steps)
