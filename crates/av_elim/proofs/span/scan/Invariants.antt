use Rattle.std.proofs.Common.{◌≡◌, drop, suc}
use Rattle.av_poly.specs.Rational.{homogeneous}
use Rattle.av_elim.specs.inner.Span.{scanned, whole}
use Rattle.av_elim.proofs.span.scan.Given as goal

abbrev pub invariant-loop-row : goal.invariant-loop-row
invariant-loop-row l = scanned (suc l.index) (homogeneous (drop l.row-index l.rows)) l.span ≡ scanned (suc l.index) (homogeneous l.rows) whole
