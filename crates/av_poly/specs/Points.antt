-- Sets of whole points by rows a.z + c >= 0: the whole points of a polyhedron (Mauras 1989; Wilde's reports on Alpha).
use Rattle.std.specs.Prelude.{ℕ, ℤ, pos, ◌≡◌, ◌≤◌, ◌≤ℤ◌, ◌^◌, List, length, unsigned_abs}
use Rattle.std.specs.List.{AllByRecursion}
use Rattle.av_affine.specs.declared.form.Form.{Form}
use Rattle.av_affine.specs.Numbers.{AtMost}
use Rattle.av_affine.specs.Forms.{value_at}

-- a set: its dimension, and the rows that hold at its points
pub record Set : Type 0 where
  pub dim : ℕ
  pub rows : List Form

-- the row holds at the point: its value there is not below 0
abbrev pub HoldsAt : Form → List ℤ → Type 0
HoldsAt row z = pos 0 ≤ℤ value_at row z

-- each row holds at the point
abbrev pub Holds : List Form → List ℤ → Type 0
Holds rows z = AllByRecursion (λ row. HoldsAt row z) rows

-- the set has the point: one entry for each index, and each row holds there
pub record Has (set : Set) (z : List ℤ) : Type 0 where
  pub dimension : length z ≡ set.dim
  pub holds : Holds set.rows z

-- coefficients and constant of at most 2^40 in absolute value
pub record IsSmall (row : Form) : Type 0 where
  pub coefficients : AtMost (2 ^ 40) row.coef
  pub constant : unsigned_abs row.constant ≤ 2 ^ 40
