-- Generators found among all points of a set by mirror images of earlier points.
use Rattle.std.specs.Prelude.{ℕ, ◌<◌, ◌+ℤ◌, ◌-ℤ◌, List, [], ◌∷◌, take, All, AllPairs, Contains, slice_index_or}
use Rattle.av_poly.specs.Points.{Set, Has}
use Rattle.av_tree.specs.Points.{Point}
use Rattle.av_flat.specs.Order.{IsBefore}
use Rattle.av_depend.specs.Edges.{IsGenerator}

-- the point of which z is the midpoint with x
abbrev pub mirrored : Point → Point → Point
mirrored (z ∷ zs) (x ∷ xs) = (z +ℤ z -ℤ x) ∷ mirrored zs xs
mirrored _ _ = []

-- the set has the point of which the one at this place is the midpoint with an earlier one
abbrev pub HasMirrored : Set → List Point → ℕ → Type 0
HasMirrored set points at = (k : ℕ) × (k < at) × Has set (mirrored (slice_index_or points at []) (slice_index_or points k []))

-- the generators among the first k points
pub record AreGeneratorsTo (set : Set) (points : List Point) (k : ℕ) (list : List Point) : Type 0 where
  pub ascending : AllPairs IsBefore list
  pub among : (z : Point) → Contains list z → Contains (take k points) z
  pub each : All (IsGenerator set) list
  pub all : (z : Point) → Contains (take k points) z → IsGenerator set z → Contains list z
