use Rattle.std.proofs.Common.{◌≡◌, ◌≤◌, ◌*◌, ◌^◌, ◌+ℤ◌, drop}
use Rattle.std.specs.Int.RustNames.{unsigned_abs}
use Rattle.av_tree.specs.Rows as rows
use Rattle.av_names.specs.inner.Sums.{sizes_in}
use Rattle.av_names.proofs.sums.constant.Given as goal

abbrev pub invariant-loop-term : goal.invariant-loop-term
invariant-loop-term l = record {
  so_far : l.sum +ℤ rows.constant (sizes_in l.sizes) l.names (drop l.term-index l.terms) ≡ rows.constant (sizes_in l.sizes) l.names l.terms;
  small : unsigned_abs l.sum ≤ 2 ^ 84 * l.term-index;
}
