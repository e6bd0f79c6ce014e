use Rattle.std.proofs.Common.{arith}
use Rattle.std.proofs.lemmas.Grind.{common_steps}
use Rattle.av_elim.proofs.bounding.constants_hold.Goals as goal

pub returns : goal.returns
returns c = grind (arith, common_steps)
