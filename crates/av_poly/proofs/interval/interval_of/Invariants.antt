use Rattle.std.proofs.Common.{◌≡◌, ◌≤◌, ◌^◌, ◌≤ℤ◌, ℤ, pos, List, ◌∷◌, ◌++◌, length, get_or, take}
use Rattle.std.specs.Int.RustNames.{unsigned_abs}
use Rattle.av_poly.specs.Points.{Holds}
use Rattle.av_poly.specs.Search.{IsBetween}
use Rattle.av_poly.proofs.interval.interval_of.Given as goal

abbrev pub invariant-loop-row : goal.invariant-loop-row
invariant-loop-row l = record {
  keeps : (x : ℤ) (z : List ℤ) → length (x ∷ z) ≡ length l.low → IsBetween l.low l.high (x ∷ z) → Holds (take l.row-index l.rows) (l.fixed ++ x ∷ z) → (l.span.low ≤ℤ x) × (x ≤ℤ l.span.high);
  above : get_or l.low 0 (pos 0) ≤ℤ l.span.low;
  below : l.span.high ≤ℤ get_or l.high 0 (pos 0);
  small : unsigned_abs l.span.low ≤ 2 ^ 70;
}
