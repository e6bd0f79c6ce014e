-- The points of bounded domains are small.
use Rattle.std.proofs.Common.{◌<◌, ◌≤◌, ℤ, pos, ◌≤ℤ◌, inl, inr, refl, subst, arith}
use Rattle.std.specs.Int.RustNames.{unsigned_abs}
use Rattle.std.proofs.lemmas.Int.{ints}
use Rattle.av_base.proofs.Lists.{same_default}
use Rattle.av_affine.specs.Numbers.{AtMost}
use Rattle.av_poly.specs.Points.{Set, Has}
use Rattle.av_poly.specs.Rational.{entry_of}
use Rattle.av_poly.proofs.Normalising.{normal_set}
use Rattle.av_poly.proofs.Rationals.{point_within_bounds}
use Rattle.av_tree.specs.Points.{Point}
use Rattle.av_flat.specs.Sets.{IsBounded}

pub small_point : (set : Set) → IsBounded set → (z : Point) → Has set z → AtMost 4095 z
small_point set (inr none) z h = absurd (none z h)
small_point set (inl b) z h = λ k d l.
    let inner : Set = record { dim = set.dim; rows = b.is_box.rows } in
    let own : Has inner z = (normal_set inner set z refl b.is_box.normalised).1 h in
    let size = h.dimension in
    let m : k < set.dim = omega (arith, l, size) in
    let spans = b.is_box.spans k m in
    let within = point_within_bounds inner z k own in
    let least : entry_of b.low k ≤ℤ entry_of z k = spans.least (entry_of z k) within in
    let greatest : entry_of z k ≤ℤ entry_of b.high k = spans.greatest (entry_of z k) within in
    let lows = b.is_box.lows in
    let highs = b.is_box.highs in
    let low : unsigned_abs (entry_of b.low k) ≤ 4095 = b.lows k (pos 0) (omega (arith, lows, m)) in
    let high : unsigned_abs (entry_of b.high k) ≤ 4095 = b.highs k (pos 0) (omega (arith, highs, m)) in
    let most : unsigned_abs (entry_of z k) ≤ 4095 = omega (arith, ints, least, greatest, low, high) in
    subst (λ (x : ℤ). unsigned_abs x ≤ 4095) (same_default z k (pos 0) d l) most
