use Rattle.std.proofs.Common.{arith}
use Rattle.std.proofs.lemmas.Grind.{common_steps}
use Rattle.av_normal.proofs.compose.prepend_map.Goals as goal

pub loop-outer-preserved : goal.loop-outer-preserved
loop-outer-preserved c = grind (arith, common_steps)
