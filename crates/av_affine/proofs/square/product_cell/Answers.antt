use Rattle.std.proofs.Common.{sym, ◌∙◌, subst, ◌^◌, arith}
use Rattle.std.proofs.lemmas.Grind.{common_steps}
use Rattle.av_affine.specs.Numbers.{AtMost}
use Rattle.av_affine.proofs.Matrices.{column_most}
use Rattle.av_affine.proofs.square.product_cell.Goals as goal

pub products-requires-clause-numbers : goal.products-requires-clause-numbers
products-requires-clause-numbers c = subst (AtMost (2 ^ 20)) (sym (c.as_slice.ensures.value ∙ c.column.ensures)) (column_most c.args.b.now c.args.index c.requires.second)

pub products-requires-clause-coef : goal.products-requires-clause-coef
products-requires-clause-coef c = grind (arith, common_steps)
