-- Trees of pieces whose reductions take the rows of what holds them. Only private contracts cite this.
use Rattle.std.specs.Prelude.{◌≡◌, ◌≤◌, ℕ, Bool, true, false, ◌||◌, ◌++◌, All, length, List}
use Rattle.av_affine.specs.declared.form.Form.{Form}
use Rattle.av_affine.specs.declared.map.Map.{Map}
use Rattle.av_affine.specs.Forms.{IsWithinLimits}
use Rattle.av_poly.specs.Points.{Set}
use Rattle.av_poly.specs.Preimages.{rows_before}
use Rattle.av_flat.specs.Trees.{Tree, reference, constant, binary, choice, reduction}
use Rattle.av_flat.specs.WellFormed.{IsProjection}

-- the set of a body: the holder's rows at the kept indices, and then its own
abbrev pub inner_of : Map → List Form → Set → Set
inner_of m rows set = record { dim = m.from; rows = rows_before m rows ++ set.rows }

-- the map of a reduction over n indices, and its set
pub record IsFoldable (n : ℕ) (m : Map) (set : Set) : Type 0 where
  pub projection : IsProjection m
  pub results : length m.rows ≡ n
  pub few : m.from ≤ 4
  pub dimension : set.dim ≡ m.from
  pub small : All IsWithinLimits m.rows

-- a tree of a piece over n indices: no case, restriction, dependence or pick
abbrev pub IsFillable : ℕ → Tree → Type 0
IsFillable n (reference place m) = Unit {0}
IsFillable n (constant k) = Unit {0}
IsFillable n (binary s l r) = IsFillable n l × IsFillable n r
IsFillable n (choice l c r x y) = IsFillable n l × IsFillable n r × IsFillable n x × IsFillable n y
IsFillable n (reduction o m t set) = IsFoldable n m set × IsFillable m.from t
IsFillable n _ = ⊥

-- a reduction is in the tree of a piece
abbrev pub has_reduction : Tree → Bool
has_reduction (binary s l r) = has_reduction l || has_reduction r
has_reduction (choice l c r x y) = has_reduction l || (has_reduction r || (has_reduction x || has_reduction y))
has_reduction (reduction o m t set) = true
has_reduction _ = false
