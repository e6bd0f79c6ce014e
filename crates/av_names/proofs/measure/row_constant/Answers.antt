use Rattle.std.proofs.Common.{arith}
use Rattle.std.proofs.lemmas.Grind.{common_steps}
use Rattle.av_names.proofs.measure.row_constant.Goals as goal

pub returns-in-LessEqual : goal.returns-in-LessEqual
returns-in-LessEqual c = grind (arith, common_steps)
