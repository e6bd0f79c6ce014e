use Rattle.std.proofs.Common.{arith}
use Rattle.std.proofs.lemmas.Grind.{common_steps}
use Rattle.av_poly.proofs.row.each_holds.Goals as goal

pub returns-then-value-lt0 : goal.returns-then-value-lt0
returns-then-value-lt0 c = grind (arith, common_steps)

pub returns : goal.returns
returns c = grind (arith, common_steps)
