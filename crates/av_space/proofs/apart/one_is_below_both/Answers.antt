use Rattle.std.proofs.Common.{arith}
use Rattle.std.proofs.lemmas.Grind.{common_steps}
use Rattle.av_space.proofs.apart.one_is_below_both.Goals as goal

pub returns-then-is_below_both : goal.returns-then-is_below_both
returns-then-is_below_both c = grind (arith, common_steps)
