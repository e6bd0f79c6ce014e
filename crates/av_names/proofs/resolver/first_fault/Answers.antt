use Rattle.std.proofs.Common.{arith}
use Rattle.std.proofs.lemmas.Grind.{common_steps}
use Rattle.av_names.proofs.resolver.first_fault.Goals as goal

pub refused-requires-clause-parts : goal.refused-requires-clause-parts
refused-requires-clause-parts c = grind (arith, common_steps)

pub refused-requires-clause-small : goal.refused-requires-clause-small
refused-requires-clause-small c = grind (arith, common_steps)
