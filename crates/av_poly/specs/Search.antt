-- Points between bounds, and the least of them in lexicographic order (textbook).
use Rattle.std.specs.Prelude.{ℤ, ◌≡◌, ◌≤ℤ◌, ◌<ℤ◌, ◌⊎◌, List, [], ◌∷◌, ◌++◌, length}
use Rattle.av_affine.specs.declared.form.Form.{Form}
use Rattle.av_poly.specs.Points.{Holds}

-- each entry lies between the bounds of its place
abbrev pub IsBetween : List ℤ → List ℤ → List ℤ → Type 0
IsBetween low high [] = Unit {0}
IsBetween [] high (x ∷ z) = ⊥
IsBetween (l ∷ low) [] (x ∷ z) = ⊥
IsBetween (l ∷ low) (h ∷ high) (x ∷ z) = (l ≤ℤ x) × (x ≤ℤ h) × IsBetween low high z

-- in lexicographic order the first point does not come after the second
abbrev pub IsNotAfter : List ℤ → List ℤ → Type 0
IsNotAfter [] ys = Unit {0}
IsNotAfter (x ∷ xs) [] = ⊥
IsNotAfter (x ∷ xs) (y ∷ ys) = (x <ℤ y) ⊎ ((x ≡ y) × IsNotAfter xs ys)

-- what may follow fixed entries: one entry between the bounds for each of them, and each row holds
pub record CanFollow (rows : List Form) (fixed low high rest : List ℤ) : Type 0 where
  pub size : length rest ≡ length low
  pub between : IsBetween low high rest
  pub holds : Holds rows (fixed ++ rest)
