-- Rows that hold everywhere, which can be left out. Only private contracts cite this.
use Rattle.std.specs.Prelude.{ℕ, pos, ◌≡◌, ◌≤ℤ◌, List, [], ◌∷◌, ◌++◌}
use Rattle.av_affine.specs.declared.form.Form.{Form}
use Rattle.av_poly.specs.Normal.{IsConstant}

-- a row without coefficients that holds everywhere
pub record IsTrivial (dim : ℕ) (row : Form) : Type 0 where
  pub no_coefficients : IsConstant dim row
  pub holds : pos 0 ≤ℤ row.constant

-- some of the rows, in their order; each of the others is trivial
pub data LeavesOut (dim : ℕ) : List Form → List Form → Type 0 where
  ended : LeavesOut dim [] []
  left : {row : Form} {rows some : List Form} → IsTrivial dim row → LeavesOut dim rows some → LeavesOut dim (row ∷ rows) some
  kept : {row : Form} {rows some : List Form} → LeavesOut dim rows some → LeavesOut dim (row ∷ rows) (row ∷ some)

-- behind the old rows stand further ones but for trivial ones
pub record AppendsNontrivial (dim : ℕ) (more old new : List Form) : Type 0 where
  pub some : List Form
  pub is : new ≡ old ++ some
  pub leaves_out : LeavesOut dim more some
