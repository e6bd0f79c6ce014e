use Rattle.av_poly.specs.Rational.{homogeneous}
use Rattle.av_elim.proofs.Progress.{Progress}
use Rattle.av_elim.proofs.shadow.without_others.Given as goal

abbrev pub invariant-loop-other : goal.invariant-loop-other
invariant-loop-other l = Progress l.index (homogeneous l.rows) l.other (homogeneous l.out)
