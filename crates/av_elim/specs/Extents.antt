-- Boxes that no point of a set is outside of (own form).
use Rattle.std.specs.Prelude.{◌≡◌, ℕ, ℤ, All, List}
use Rattle.av_affine.specs.Forms.{IsWithinLimits}
use Rattle.av_poly.specs.declared.poly.Bounds.{Bounds}
use Rattle.av_poly.specs.Points.{Set, Has}
use Rattle.av_poly.specs.Search.{IsBetween}

-- a set of this dimension has no point outside the box
pub record IsInside (dim : ℕ) (extent : Bounds) (set : Set) : Type 0 where
  pub dim_is : set.dim ≡ dim
  pub between : (z : List ℤ) → Has set z → IsBetween extent.low extent.high z

-- a set of this dimension whose rows are within their limits
pub record IsOrdinary (dim : ℕ) (set : Set) : Type 0 where
  pub dim_is : set.dim ≡ dim
  pub rows : All IsWithinLimits set.rows
