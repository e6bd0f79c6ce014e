use Rattle.std.proofs.Common.{◌++◌, drop}
use Rattle.av_poly.specs.Rational.{homogeneous}
use Rattle.av_elim.specs.inner.Rows.{StandsFor}
use Rattle.av_elim.proofs.shadow.gathered.Given as goal

abbrev pub invariant-loop-row : goal.invariant-loop-row
invariant-loop-row l = StandsFor (homogeneous l.rows) (homogeneous l.out ++ homogeneous (drop l.row-index l.rows))
