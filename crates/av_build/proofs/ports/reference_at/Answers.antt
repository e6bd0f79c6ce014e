use Rattle.std.proofs.Common.{arith}
use Rattle.std.proofs.lemmas.Grind.{common_steps}
use Rattle.av_build.proofs.ports.reference_at.Goals as goal

pub returns-then-is_reference : goal.returns-then-is_reference
returns-then-is_reference c = grind (arith, common_steps)
