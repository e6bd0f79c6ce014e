-- Normalised rows: each is divided by the greatest common divisor of its coefficients and its constant is rounded down,
-- which keeps the whole points (Wilde's reports on Alpha; textbook, the strengthening of an inequality over whole numbers).
use Rattle.std.specs.Prelude.{ℕ, ℤ, pos, negsuc, zero, suc, ◌≡◌, ◌≢◌, ◌<◌, ◌≤ℤ◌, ◌<ℤ◌, ◌⊎◌, List, [], ◌∷◌, map, take, All, Any, AllPairs}
use Rattle.std.specs.Int.{int_div_euclid}
use Rattle.av_affine.specs.declared.form.Form.{Form}
use Rattle.av_affine.specs.Numbers.{IsGcdOf}
use Rattle.av_poly.specs.Points.{Set}

-- the coefficients that count in n indices: the first n, and 0 in place of the others
abbrev pub counted : ℕ → List ℤ → List ℤ
counted n [] = []
counted zero (x ∷ xs) = pos 0 ∷ counted zero xs
counted (suc n) (x ∷ xs) = x ∷ counted n xs

-- no coefficient that counts is other than 0
abbrev pub IsConstant : ℕ → Form → Type 0
IsConstant dim row = All (λ x. x ≡ pos 0) (counted dim row.coef)

-- a row without coefficients that holds nowhere
pub record IsNever (dim : ℕ) (row : Form) : Type 0 where
  pub no_coefficients : IsConstant dim row
  pub negative : row.constant <ℤ pos 0

-- the row divided by the greatest common divisor of its coefficients, its constant rounded down
pub record IsDivided (dim : ℕ) (row divided : Form) : Type 0 where
  pub divisor : ℕ
  pub positive : 0 < divisor
  pub gcd : IsGcdOf (counted dim row.coef) divisor
  pub coef : divided.coef ≡ map (λ x. int_div_euclid x (pos divisor)) (counted dim row.coef)
  pub constant : divided.constant ≡ int_div_euclid row.constant (pos divisor)

-- the new row has the coefficients of the divided one, and no greater constant
pub record Tightens (dim : ℕ) (row new : Form) : Type 0 where
  pub divided : Form
  pub is_divided : IsDivided dim row divided
  pub coef : new.coef ≡ divided.coef
  pub constant : new.constant ≤ℤ divided.constant

-- once it is divided, the row has these coefficients
abbrev pub HasDirection : ℕ → List ℤ → Form → Type 0
HasDirection dim coef row = (divided : Form) × IsDivided dim row divided × (divided.coef ≡ coef)

-- going down the rows, one meets the coefficients of the one form before those of the other
pub record IsMetBefore (dim : ℕ) (rows : List Form) (one other : Form) : Type 0 where
  pub count : ℕ
  pub met : Any (HasDirection dim one.coef) (take count rows)
  pub not_met : All (λ row. HasDirection dim other.coef row → ⊥) (take count rows)

-- of rows none of which is false: each new row is a divided one, each row with coefficients is tightened, no two new rows
-- have equal coefficients, and they stand in the order in which the rows first show their coefficients
pub record AreTightest (dim : ℕ) (rows new : List Form) : Type 0 where
  pub divided : All (λ row. Any (λ old. IsDivided dim old row) rows) new
  pub least : All (λ row. IsConstant dim row ⊎ Any (Tightens dim row) new) rows
  pub distinct : AllPairs (λ a b. a.coef ≢ b.coef) new
  pub order : AllPairs (IsMetBefore dim rows) new

-- the row 0 >= 1
abbrev pub impossible : Form
impossible = record { coef = pos 0 ∷ pos 0 ∷ pos 0 ∷ pos 0 ∷ []; constant = negsuc 0 }

-- the normalised rows: the one row 0 >= 1 where a row is false, and else for each list of coefficients the least constant
abbrev pub AreNormalised : ℕ → List Form → List Form → Type 0
AreNormalised dim rows new =
    (Any (IsNever dim) rows × (new ≡ impossible ∷ []))
    ⊎ (All (λ row. IsConstant dim row → pos 0 ≤ℤ row.constant) rows × AreTightest dim rows new)

-- coefficients without a common divisor but 1, and 0 where they do not count
pub record IsPrimitive (dim : ℕ) (row : Form) : Type 0 where
  pub gcd : IsGcdOf row.coef 1
  pub counts : counted dim row.coef ≡ row.coef

-- a set with normalised rows
abbrev pub IsNormal : Set → Type 0
IsNormal set = (set.rows ≡ impossible ∷ []) ⊎ (All (IsPrimitive set.dim) set.rows × AllPairs (λ a b. a.coef ≢ b.coef) set.rows)
