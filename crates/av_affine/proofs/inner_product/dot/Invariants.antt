use Rattle.std.proofs.Common.{◌≡◌, ◌≤◌, ◌*◌, ◌^◌, take}
use Rattle.std.specs.Int.RustNames.{unsigned_abs}
use Rattle.av_affine.specs.Numbers.{dot}
use Rattle.av_affine.proofs.inner_product.dot.Given as goal

abbrev pub invariant-loop-k : goal.invariant-loop-k
invariant-loop-k l = record {
  so_far : l.sum ≡ dot (take l.k l.row) (take l.k l.numbers);
  small : unsigned_abs l.sum ≤ 2 ^ 103 * l.k;
}
