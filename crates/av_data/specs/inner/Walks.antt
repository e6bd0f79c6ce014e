-- Walks through the points of a set in order.
use Rattle.std.specs.Prelude.{◌≡◌, ℕ, take, get_or, pos, ◌<ℤ◌}
use Rattle.av_poly.specs.Points.{Set, Has}
use Rattle.av_tree.specs.Points.{Point}
use Rattle.av_flat.specs.Order.{IsBefore}

-- the two points first differ at this index, where the second one has the greater entry
pub record DiffersAt (k : ℕ) (z y : Point) : Type 0 where
  pub same : take k y ≡ take k z
  pub greater : get_or z k (pos 0) <ℤ get_or y k (pos 0)

-- a point of the set behind z, and none between
pub record IsNext (set : Set) (z y : Point) : Type 0 where
  pub has : Has set y
  pub behind : IsBefore z y
  pub next : (x : Point) → Has set x → IsBefore z x → IsBefore x y → ⊥

-- no point of the set is behind z
abbrev pub IsLast : Set → Point → Type 0
IsLast set z = (x : Point) → Has set x → IsBefore z x → ⊥
