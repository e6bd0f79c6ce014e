use Rattle.std.proofs.Common.{arith}
use Rattle.std.proofs.lemmas.Grind.{common_steps}
use Rattle.av_names.proofs.affine.entry_between.Goals as goal

pub returns-then-place-names : goal.returns-then-place-names
returns-then-place-names c = grind (arith, common_steps)
