use Rattle.std.proofs.Common.{arith}
use Rattle.std.proofs.lemmas.Grind.{common_steps}
use Rattle.av_names.proofs.repetitions.again.Goals as goal

pub loop-rest-preserved-then-branch : goal.loop-rest-preserved-then-branch
loop-rest-preserved-then-branch c = grind (arith, common_steps)

pub loop-rest-preserved : goal.loop-rest-preserved
loop-rest-preserved c = grind (arith, common_steps)
