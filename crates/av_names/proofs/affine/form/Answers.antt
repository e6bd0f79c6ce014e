use Rattle.std.proofs.Common.{arith}
use Rattle.std.proofs.lemmas.Grind.{common_steps}
use Rattle.av_names.proofs.affine.form.Goals as goal

pub constant-requires-clause-sizes : goal.constant-requires-clause-sizes
constant-requires-clause-sizes c = assumption

pub small-requires : goal.small-requires
small-requires c = grind (arith, common_steps)

pub constant-requires-clause-terms : goal.constant-requires-clause-terms
constant-requires-clause-terms c = grind (arith, common_steps)

pub entry-requires-4 : goal.entry-requires-4
entry-requires-4 c = grind (arith, common_steps)
