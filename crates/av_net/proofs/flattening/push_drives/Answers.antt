use Rattle.std.proofs.Common.{arith}
use Rattle.std.proofs.lemmas.Grind.{common_steps}
use Rattle.av_net.proofs.flattening.push_drives.Goals as goal

pub loop-drive-preserved : goal.loop-drive-preserved
loop-drive-preserved c = grind (arith, common_steps)
