use Rattle.std.proofs.Common.{arith}
use Rattle.std.proofs.lemmas.Grind.{common_steps}
use Rattle.av_build.proofs.blueprint.plan_lanes.Goals as goal

pub returns-clause-blueprint : goal.returns-clause-blueprint
returns-clause-blueprint c = grind (arith, common_steps)
