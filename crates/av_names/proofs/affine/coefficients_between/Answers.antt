use Rattle.std.proofs.Common.{arith}
use Rattle.std.proofs.lemmas.Grind.{common_steps}
use Rattle.av_names.proofs.affine.coefficients_between.Goals as goal

pub entry_between-requires-4-clause-right : goal.entry_between-requires-4-clause-right
entry_between-requires-4-clause-right c = grind (arith, common_steps)

pub entry_between-requires-4-clause-left : goal.entry_between-requires-4-clause-left
entry_between-requires-4-clause-left c = grind (arith, common_steps)
