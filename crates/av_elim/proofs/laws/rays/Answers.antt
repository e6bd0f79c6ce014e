use Rattle.av_poly.specs.Rational.{homogeneous}
use Rattle.av_elim.proofs.Excluding.{ray_of_endless, endless_of_ray}
use Rattle.av_elim.proofs.laws.rays.Goals as goal

pub returns : goal.returns
returns c = λ set p. ((λ w. ray_of_endless set.dim w.0 (homogeneous set.rows) w.1 w.2), (λ r. endless_of_ray set.dim (homogeneous set.rows) p r))
