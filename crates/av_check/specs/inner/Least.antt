-- The least of points in lexicographic order. Only private contracts cite this.
use Rattle.std.specs.Prelude.{ℤ, Bool, true, false, int_lt, List, [], ◌∷◌, Option, Some, None, if◌then◌else◌}
use Rattle.std.specs.Ordering.{int_eq}
use Rattle.av_poly.specs.Search.{IsNotAfter}
use Rattle.av_tree.specs.Points.{Point}

-- the point is the least of those of which P holds, or there is none
abbrev pub IsLeast : (Point → Type 0) → Option Point → Type 0
IsLeast P None = (z : Point) → P z → ⊥
IsLeast P (Some z) = P z × ((y : Point) → P y → IsNotAfter z y)

-- whether the first does not come after the second
abbrev pub not_after : List ℤ → List ℤ → Bool
not_after [] ys = true
not_after (x ∷ xs) [] = false
not_after (x ∷ xs) (y ∷ ys) = if int_eq x y then not_after xs ys else int_lt x y

-- the one that comes first
abbrev pub first_of : Option Point → Option Point → Option Point
first_of None other = other
first_of (Some z) None = Some z
first_of (Some z) (Some y) = if not_after z y then Some z else Some y
