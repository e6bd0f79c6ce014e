use Rattle.std.proofs.Common.{arith}
use Rattle.std.proofs.lemmas.Grind.{common_steps}
use Rattle.av_space.proofs.laying.cells_filled.Goals as goal

pub returns-clause-cells : goal.returns-clause-cells
returns-clause-cells c = grind (arith, common_steps)
