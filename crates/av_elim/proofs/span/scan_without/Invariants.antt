use Rattle.std.proofs.Common.{◌≡◌, ◌++◌, drop, suc}
use Rattle.av_poly.specs.Rational.{homogeneous}
use Rattle.av_elim.specs.inner.Step.{flats, all_pairs, eliminated}
use Rattle.av_elim.specs.inner.Span.{scanned, whole}
use Rattle.av_elim.proofs.span.scan_without.Given as goal

abbrev pub invariant-loop-row : goal.invariant-loop-row
invariant-loop-row l = scanned (suc l.index) (flats (suc l.other) (homogeneous (drop l.row-index l.rows)) ++ all_pairs (suc l.other) (homogeneous l.rows) (homogeneous l.rows)) l.span ≡ scanned (suc l.index) (eliminated (suc l.other) (homogeneous l.rows)) whole

abbrev pub invariant-loop-below : goal.invariant-loop-below
invariant-loop-below l = scanned (suc l.index) (all_pairs (suc l.other) (homogeneous (drop l.below-index l.rows)) (homogeneous l.rows)) l.span ≡ scanned (suc l.index) (eliminated (suc l.other) (homogeneous l.rows)) whole
