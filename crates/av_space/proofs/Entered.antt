-- Tests whether a point is in a set and not the point before it.
use Rattle.std.proofs.Common.{◌≡◌, ◌↔◌, Bool, true, false, not, IsTrue, Some, None, refl, sym}
use Rattle.std.specs.Prelude.{Option}
use Rattle.av_poly.specs.Points.{Set, Has}
use Rattle.av_tree.specs.Points.{Point}
use Rattle.av_flat.specs.Points.{has}
use Rattle.av_flat.specs.Helped.{before}
use Rattle.av_depend.proofs.Listed.{has_true, has_false}
use Rattle.av_space.specs.inner.Feeding.{is_entered}

-- what a test of a point gives
pub tested : (b : Bool) (set : Set) (z : Point) → IsTrue b ↔ Has set z → b ≡ has set z
tested true set z h = sym (has_true set z (h.0 refl))
tested false set z h = sym (has_false set z (λ k. absurd (let t = h.1 k in cc)))

pub not_entered : (set : Set) (direction : Option Point) (z : Point) → has set z ≡ false → is_entered set direction z ≡ false
not_entered set None z e = e
not_entered set (Some w) z e = rw e refl

pub entered_along : (set : Set) (w z : Point) (b : Bool) → has set z ≡ true → b ≡ has set (before z w) → not b ≡ is_entered set (Some w) z
entered_along set w z b e f = rw (e, f) refl
