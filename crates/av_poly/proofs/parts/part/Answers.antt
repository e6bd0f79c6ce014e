use Rattle.std.proofs.Common.{rules, arith}
use Rattle.std.proofs.lemmas.Grind.{elements}
use Rattle.av_poly.proofs.Parting.{part_points}
use Rattle.av_poly.proofs.parts.part.Goals as goal

pub returns-clause-points : goal.returns-clause-points
returns-clause-points c = λ z. part_points _ c.args.dim c.args.kept.now c.args.row.now c.complement.result z (search rules) (search rules) (c.complement.ensures.points z)

pub invariant_of-result : goal.invariant_of-result
invariant_of-result c = grind (arith, elements)
