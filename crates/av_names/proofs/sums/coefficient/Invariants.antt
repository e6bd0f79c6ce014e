use Rattle.std.proofs.Common.{◌≡◌, ◌≤◌, ◌*◌, ◌^◌, ◌+ℤ◌, drop}
use Rattle.std.specs.Int.RustNames.{unsigned_abs}
use Rattle.av_tree.specs.Rows.{coefficient}
use Rattle.av_names.proofs.sums.coefficient.Given as goal

abbrev pub invariant-loop-term : goal.invariant-loop-term
invariant-loop-term l = record {
  so_far : l.sum +ℤ coefficient (drop l.term-index l.terms) l.name ≡ coefficient l.terms l.name;
  small : unsigned_abs l.sum ≤ 2 ^ 64 * l.term-index;
}
