use Rattle.std.proofs.Common.{◌≡◌, drop, suc}
use Rattle.av_poly.specs.Rational.{homogeneous}
use Rattle.av_elim.specs.inner.Rows.{line}
use Rattle.av_elim.specs.inner.Step.{pairs_of}
use Rattle.av_elim.specs.inner.Span.{scanned}
use Rattle.av_elim.proofs.span.scan_pairs.Given as goal

abbrev pub invariant-loop-above : goal.invariant-loop-above
invariant-loop-above l = scanned (suc l.index) (pairs_of (suc l.other) (line l.below) (homogeneous (drop l.above-index l.rows))) l.all ≡ scanned (suc l.index) (pairs_of (suc l.other) (line l.below) (homogeneous l.rows)) l.fn.span
