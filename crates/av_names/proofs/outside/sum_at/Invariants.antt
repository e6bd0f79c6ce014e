use Rattle.std.proofs.Common.{◌≡◌, ◌≤◌, ◌*◌, ◌^◌, Some, drop}
use Rattle.std.specs.Int.RustNames.{unsigned_abs}
use Rattle.av_tree.specs.Points as points
use Rattle.av_names.specs.inner.Sums.{sizes_in}
use Rattle.av_names.proofs.outside.sum_at.Given as goal

abbrev pub invariant-loop-term : goal.invariant-loop-term
invariant-loop-term l = record {
  so_far : points.plus (Some l.sum) (points.sum_at (sizes_in l.sizes) (drop l.term-index l.terms)) ≡ points.sum_at (sizes_in l.sizes) l.terms;
  small : unsigned_abs l.sum ≤ 2 ^ 84 * l.term-index;
}
