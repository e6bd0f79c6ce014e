use Rattle.std.proofs.Common.{◌≡◌, ◌≤◌, ◌*◌, ◌^◌, ◌≤ℤ◌, ℤ, List, length, take}
use Rattle.std.specs.Int.RustNames.{unsigned_abs}
use Rattle.av_affine.specs.Numbers.{dot}
use Rattle.av_poly.specs.Search.{IsBetween}
use Rattle.av_poly.proofs.interval.most.Given as goal

abbrev pub invariant-loop-k : goal.invariant-loop-k
invariant-loop-k l = record {
  so_far : (z : List ℤ) → length z ≡ length l.low → IsBetween l.low l.high z → dot (take l.k l.coef) (take l.k z) ≤ℤ l.sum;
  small : unsigned_abs l.sum ≤ 2 ^ 65 * l.k;
}
