use Rattle.av_poly.specs.Rational.{homogeneous}
use Rattle.av_elim.proofs.Reaching.{Reached}
use Rattle.av_elim.proofs.bounding.index_bounds.Given as goal

abbrev pub invariant-loop-index : goal.invariant-loop-index
invariant-loop-index l = Reached l.dim (homogeneous l.rows) l.index l.gap l.low l.high
