use Rattle.std.proofs.Common.{arith}
use Rattle.std.proofs.lemmas.Grind.{common_steps}
use Rattle.av_normal.proofs.compose.together.Goals as goal

pub outwards-requires : goal.outwards-requires
outwards-requires c = grind (arith, common_steps)

pub returns-in_err-whole-clause-first : goal.returns-in_err-whole-clause-first
returns-in_err-whole-clause-first c = grind (arith, common_steps)

pub returns-clause-narrow : goal.returns-clause-narrow
returns-clause-narrow c = grind (arith, common_steps)

pub returns-clause-composed : goal.returns-clause-composed
returns-clause-composed c = grind (arith, common_steps)
