-- The disjoint parts of a set difference, row by row.
use Rattle.std.specs.Prelude.{ℕ, ℤ, ◌≡◌, ◌≤◌, ◌↔◌, List, length, All, Any, AllPairs}
use Rattle.av_affine.specs.declared.form.Form.{Form}
use Rattle.av_poly.specs.Points.{Set, Has, Holds}
use Rattle.av_poly.specs.Parts.{AreDisjoint}

-- disjoint parts, at most one for each row, of the points of a dimension at which the rows within hold and not all others do
pub record AreParts (dim : ℕ) (within rows : List Form) (parts : List Set) : Type 0 where
  pub points : (z : List ℤ) → Any (λ part. Has part z) parts ↔ ((length z ≡ dim) × Holds within z × (Holds rows z → ⊥))
  pub disjoint : AllPairs AreDisjoint parts
  pub dims : All (λ part. part.dim ≡ dim) parts
  pub few : length parts ≤ length rows
