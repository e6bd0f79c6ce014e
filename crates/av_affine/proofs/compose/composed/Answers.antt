use Rattle.std.proofs.Common.{arith}
use Rattle.std.proofs.lemmas.Grind.{common_steps}
use Rattle.av_affine.proofs.compose.composed.Goals as goal

pub loop-form-preserved : goal.loop-form-preserved
loop-form-preserved c = grind (arith, common_steps)

pub push-requires : goal.push-requires
push-requires c = grind (arith, common_steps)
