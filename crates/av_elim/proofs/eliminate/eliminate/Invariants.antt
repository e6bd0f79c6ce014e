use Rattle.std.proofs.Common.{◌++◌, drop, suc}
use Rattle.av_poly.specs.Rational.{homogeneous}
use Rattle.av_elim.specs.inner.Rows.{StandsFor}
use Rattle.av_elim.specs.inner.Step.{flats, all_pairs, eliminated}
use Rattle.av_elim.proofs.eliminate.eliminate.Given as goal

abbrev pub invariant-loop-row : goal.invariant-loop-row
invariant-loop-row l = StandsFor (flats (suc l.other) (homogeneous l.rows)) (homogeneous l.out ++ flats (suc l.other) (homogeneous (drop l.row-index l.rows)))

abbrev pub invariant-loop-below : goal.invariant-loop-below
invariant-loop-below l = StandsFor (eliminated (suc l.other) (homogeneous l.rows)) (homogeneous l.out ++ all_pairs (suc l.other) (homogeneous (drop l.below-index l.rows)) (homogeneous l.rows))
