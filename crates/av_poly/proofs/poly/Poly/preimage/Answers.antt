use Rattle.std.proofs.Common.{rules}
use Rattle.av_poly.proofs.Membership.{before_points}
use Rattle.av_poly.proofs.poly.Poly.preimage.Goals as goal

pub returns-clause-points : goal.returns-clause-points
returns-clause-points c = λ z short. before_points _ c.args.self.now c.args.map.now z (search rules) (search rules) c.requires.fits short
