use Rattle.std.proofs.Common.{◌++◌, drop, suc}
use Rattle.av_poly.specs.Rational.{homogeneous}
use Rattle.av_elim.specs.inner.Rows.{line, StandsFor}
use Rattle.av_elim.specs.inner.Step.{pairs_of}
use Rattle.av_elim.proofs.eliminate.add_pairs.Given as goal

-- what is out, with what comes of the rows left
abbrev pub invariant-loop-above : goal.invariant-loop-above
invariant-loop-above l = StandsFor (homogeneous l.fn.out ++ pairs_of (suc l.other) (line l.below) (homogeneous l.rows)) (homogeneous l.out ++ pairs_of (suc l.other) (line l.below) (homogeneous (drop l.above-index l.rows)))
