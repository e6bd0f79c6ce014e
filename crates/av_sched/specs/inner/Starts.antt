-- The least value of a linear part over a set, between bounds that close in. Only private contracts cite this.
use Rattle.std.specs.Prelude.{◌≡◌, ℤ, pos, ◌≤ℤ◌, ◌≤◌, Option, Some, None, slice_index_or, unsigned_abs}
use Rattle.std.proofs.Math.IntN.{neg_ℤ}
use Rattle.av_affine.specs.declared.form.Form.{Form}
use Rattle.av_affine.specs.Numbers.{dot, four}
use Rattle.av_poly.specs.Points.{Set, Has}
use Rattle.av_tree.specs.Points.{Point}

-- the row that holds where the value is at most x
abbrev pub row_at_most : Point → ℤ → Form
row_at_most a x = record { coef = four (λ k. neg_ℤ (slice_index_or a k (pos 0))); constant = x }

-- no point has a value below low, and some point has this value
pub record IsSpanned (set : Set) (a : Point) (low value : ℤ) : Type 0 where
  pub none_below : (z : Point) → Has set z → low ≤ℤ dot a z
  pub point : Point
  pub is_point : Has set point
  pub taken : dot a point ≡ value
  pub low_small : unsigned_abs low ≤ 131072
  pub value_small : unsigned_abs value ≤ 131072

-- x is the least value, and none where there is no point
abbrev pub IsLeastValue : Set → Point → Option ℤ → Type 0
IsLeastValue set a None = (z : Point) → Has set z → ⊥
IsLeastValue set a (Some x) = IsSpanned set a x x
