use Rattle.std.proofs.Common.{rules, arith}
use Rattle.std.proofs.lemmas.Grind.{elements}
use Rattle.av_poly.proofs.Membership.{meet_points}
use Rattle.av_poly.proofs.poly.Poly.meet.Goals as goal

pub returns-clause-points : goal.returns-clause-points
returns-clause-points c = λ z. meet_points _ c.args.self.now c.args.other.now z (search rules) c.requires (search rules)

pub invariant_of-result : goal.invariant_of-result
invariant_of-result c = grind (arith, elements)
