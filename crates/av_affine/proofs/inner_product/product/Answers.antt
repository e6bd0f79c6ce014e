use Rattle.std.proofs.Common.{arith}
use Rattle.std.proofs.lemmas.Grind.{common_steps}
use Rattle.av_affine.proofs.inner_product.product.Goals as goal

pub returns-clause-small : goal.returns-clause-small
returns-clause-small c = grind (arith, common_steps)

pub returns-clause-value : goal.returns-clause-value
returns-clause-value c = grind (arith, common_steps)
