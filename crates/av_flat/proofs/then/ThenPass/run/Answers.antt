use Rattle.std.proofs.Common.{arith}
use Rattle.std.proofs.lemmas.Grind.{common_steps}
use Rattle.av_flat.proofs.then.ThenPass.run.Goals as goal

pub returns-in-Ok-run-clause-same : goal.returns-in-Ok-run-clause-same
returns-in-Ok-run-clause-same c = grind (arith, common_steps)
