-- Rational points and rays of rows, and the rational bounds of an index, in whole numbers (Schrijver, Theory of Linear and
-- Integer Programming; textbook). A row is one list here, its constant before its coefficients; the list m, y is the
-- rational point y/m for a positive m, and a direction for m = 0. So elimination and scaling keep to whole numbers.
use Rattle.std.specs.Prelude.{◌≡◌, ◌≢◌, ℕ, ℤ, pos, ◌<◌, ◌≤◌, ◌*ℤ◌, ◌≤ℤ◌, ◌<ℤ◌, ◌⊎◌, List, ◌∷◌, length, map, Any, slice_index_or}
use Rattle.std.specs.List.{AllByRecursion}
use Rattle.av_affine.specs.declared.form.Form.{Form}
use Rattle.av_affine.specs.Numbers.{dot}
use Rattle.av_poly.specs.declared.poly.Bounds.{Bounds}
use Rattle.av_poly.specs.Points.{Set}

-- the rows as lists: the constant, then the coefficients
abbrev pub homogeneous : List Form → List (List ℤ)
homogeneous rows = map (λ row. row.constant ∷ row.coef) rows

-- at each row the sum of products is not below 0
abbrev pub Satisfies : List (List ℤ) → List ℤ → Type 0
Satisfies rows v = AllByRecursion (λ row. pos 0 ≤ℤ dot row v) rows

-- the entry of an index
abbrev pub entry_of : List ℤ → ℕ → ℤ
entry_of y index = slice_index_or y index (pos 0)

-- y/m is a rational point at which each row holds
pub record IsRationalPoint (dim : ℕ) (rows : List (List ℤ)) (m : ℤ) (y : List ℤ) : Type 0 where
  pub size : length y ≡ dim
  pub positive : pos 0 <ℤ m
  pub satisfies : Satisfies rows (m ∷ y)

-- the rows have a rational point
abbrev pub HasRationalPoint : ℕ → List (List ℤ) → Type 0
HasRationalPoint dim rows = (m : ℤ) × (y : List ℤ) × IsRationalPoint dim rows m y

-- a direction in which the rows are unbounded
pub record IsDirection (dim : ℕ) (rows : List (List ℤ)) (d : List ℤ) : Type 0 where
  pub size : length d ≡ dim
  pub satisfies : Satisfies rows (pos 0 ∷ d)

-- a direction that is not 0
abbrev pub IsRationalRay : ℕ → List (List ℤ) → List ℤ → Type 0
IsRationalRay dim rows d = IsDirection dim rows d × Any (λ x. x ≢ pos 0) d

-- the rows have a rational ray
abbrev pub HasRationalRay : ℕ → List (List ℤ) → Type 0
HasRationalRay dim rows = (d : List ℤ) × IsRationalRay dim rows d

-- the whole number x lies between the rational bounds of an index: some rational point has it there
abbrev pub IsWithinBounds : ℕ → List (List ℤ) → ℕ → ℤ → Type 0
IsWithinBounds dim rows index x = (m : ℤ) × (y : List ℤ) × IsRationalPoint dim rows m y × (entry_of y index ≡ x *ℤ m)

-- a rational ray that moves an index
abbrev pub HasRayAlong : ℕ → List (List ℤ) → ℕ → Type 0
HasRayAlong dim rows index = (d : List ℤ) × IsDirection dim rows d × (entry_of d index ≢ pos 0)

-- an index has finite bounds on both sides
pub record IsBounded (dim : ℕ) (rows : List (List ℤ)) (index : ℕ) : Type 0 where
  pub below : (x : ℤ) × ((m : ℤ) (y : List ℤ) → IsRationalPoint dim rows m y → (x *ℤ m) ≤ℤ entry_of y index)
  pub above : (x : ℤ) × ((m : ℤ) (y : List ℤ) → IsRationalPoint dim rows m y → entry_of y index ≤ℤ (x *ℤ m))
  pub no_ray : (d : List ℤ) → IsDirection dim rows d → entry_of d index ≡ pos 0

-- no whole number bounds an index from below, or none from above
abbrev pub IsEndless : ℕ → List (List ℤ) → ℕ → Type 0
IsEndless dim rows index =
    ((x : ℤ) → (m : ℤ) × (y : List ℤ) × IsRationalPoint dim rows m y × (entry_of y index ≤ℤ (x *ℤ m)))
    ⊎ ((x : ℤ) → (m : ℤ) × (y : List ℤ) × IsRationalPoint dim rows m y × ((x *ℤ m) ≤ℤ entry_of y index))

-- the least and the greatest whole number between the rational bounds of an index
pub record Spans (dim : ℕ) (rows : List (List ℤ)) (index : ℕ) (low high : ℤ) : Type 0 where
  pub low_within : IsWithinBounds dim rows index low
  pub high_within : IsWithinBounds dim rows index high
  pub least : (x : ℤ) → IsWithinBounds dim rows index x → low ≤ℤ x
  pub greatest : (x : ℤ) → IsWithinBounds dim rows index x → x ≤ℤ high
  pub bounded : IsBounded dim rows index

-- the bounds of a set: it has a rational point, and they are of each index the least and the greatest whole number between
-- its rational bounds, with 0 at the places past the dimension
pub record AreBounds (set : Set) (bounds : Bounds) : Type 0 where
  pub point : HasRationalPoint set.dim (homogeneous set.rows)
  pub spans : (index : ℕ) → index < set.dim → Spans set.dim (homogeneous set.rows) index (entry_of bounds.low index) (entry_of bounds.high index)
  pub rest : (index : ℕ) → set.dim ≤ index → (entry_of bounds.low index ≡ pos 0) × (entry_of bounds.high index ≡ pos 0)

-- the set has a rational point, and this is the first index without a finite bound on one side
pub record IsFirstEndless (set : Set) (index : ℕ) : Type 0 where
  pub point : HasRationalPoint set.dim (homogeneous set.rows)
  pub within : index < set.dim
  pub endless : IsEndless set.dim (homogeneous set.rows) index
  pub before : (other : ℕ) → other < index → IsBounded set.dim (homogeneous set.rows) other

-- every index has finite bounds, and some index has no whole number between them
pub record HasGap (set : Set) : Type 0 where
  pub bounded : (index : ℕ) → index < set.dim → IsBounded set.dim (homogeneous set.rows) index
  pub gap : ℕ
  pub within : gap < set.dim
  pub no_whole : (x : ℤ) → IsWithinBounds set.dim (homogeneous set.rows) gap x → ⊥

-- the set has no bounds to tell: no rational point, or an index with no whole number between its bounds
abbrev pub HasNoBounds : Set → Type 0
HasNoBounds set = (HasRationalPoint set.dim (homogeneous set.rows) → ⊥) ⊎ HasGap set
