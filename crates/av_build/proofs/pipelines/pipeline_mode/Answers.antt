use Rattle.std.proofs.Common.{arith}
use Rattle.std.proofs.lemmas.Grind.{common_steps}
use Rattle.av_build.proofs.pipelines.pipeline_mode.Goals as goal

pub returns-clause-work : goal.returns-clause-work
returns-clause-work c = grind (arith, common_steps)
