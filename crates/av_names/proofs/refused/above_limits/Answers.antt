use Rattle.std.proofs.Common.{arith}
use Rattle.std.proofs.lemmas.Grind.{common_steps}
use Rattle.av_names.proofs.refused.above_limits.Goals as goal

pub returns-in-Some-5 : goal.returns-in-Some-5
returns-in-Some-5 c = grind (arith, common_steps)

pub returns-then-branch : goal.returns-then-branch
returns-then-branch c = grind (arith, common_steps)

pub returns : goal.returns
returns c = grind (arith, common_steps)

pub returns-in-Some-2 : goal.returns-in-Some-2
returns-in-Some-2 c = grind (arith, common_steps)

pub returns-in-Some-4 : goal.returns-in-Some-4
returns-in-Some-4 c = grind (arith, common_steps)

pub returns-in-Some-too_many_indices : goal.returns-in-Some-too_many_indices
returns-in-Some-too_many_indices c = grind (arith, common_steps)

pub returns-in-Some-3 : goal.returns-in-Some-3
returns-in-Some-3 c = grind (arith, common_steps)

pub returns-in-Some : goal.returns-in-Some
returns-in-Some c = grind (arith, common_steps)

pub is_outside-requires-clause-small : goal.is_outside-requires-clause-small
is_outside-requires-clause-small c = assumption

pub great_constant-requires-clause-small : goal.great_constant-requires-clause-small
great_constant-requires-clause-small c = grind (arith, common_steps)
