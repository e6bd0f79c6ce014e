-- The least point that begins with fixed entries.
use Rattle.std.specs.Prelude.{ℤ, ◌≡◌, List, ◌++◌}
use Rattle.av_affine.specs.declared.form.Form.{Form}
use Rattle.av_poly.specs.Search.{IsNotAfter, CanFollow}

-- the point is the fixed entries with the least that may follow them
pub record IsFirstFrom (rows : List Form) (fixed low high point : List ℤ) : Type 0 where
  pub rest : List ℤ
  pub follows : CanFollow rows fixed low high rest
  pub is : point ≡ fixed ++ rest
  pub least : (other : List ℤ) → CanFollow rows fixed low high other → IsNotAfter rest other
