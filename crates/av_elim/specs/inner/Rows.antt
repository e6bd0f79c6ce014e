-- Rows as lists, the constant before the coefficients, and what an elimination keeps of them (Fourier, Motzkin; Schrijver,
-- Theory of Linear and Integer Programming). Place 0 is the constant's, and place i + 1 that of index i.
use Rattle.std.specs.Prelude.{◌≡◌, ℕ, ℤ, pos, ◌+ℤ◌, ◌*ℤ◌, ◌≤ℤ◌, ◌<ℤ◌, ◌<◌, ◌≤◌, ◌*◌, List, [], ◌∷◌, length, slice_index_or, slice_set, unsigned_abs}
use Rattle.std.specs.List.{AllByRecursion}
use Rattle.av_affine.specs.declared.form.Form.{Form}
use Rattle.av_poly.specs.Rational.{Satisfies}

-- one row as a list
abbrev pub line : Form → List ℤ
line row = row.constant ∷ row.coef

-- each entry times s
abbrev pub scale : ℤ → List ℤ → List ℤ
scale s [] = []
scale s (x ∷ xs) = (s *ℤ x) ∷ scale s xs

-- f of the second and g of the first, entry by entry
abbrev pub combine : ℤ → ℤ → List ℤ → List ℤ → List ℤ
combine f g [] n = scale f n
combine f g (x ∷ p) [] = scale g (x ∷ p)
combine f g (x ∷ p) (y ∷ n) = (f *ℤ y +ℤ g *ℤ x) ∷ combine f g p n

-- the number at a place
abbrev pub factor : ℕ → List ℤ → ℤ
factor k r = slice_index_or r k (pos 0)

-- no row has a number at the place
abbrev pub Clear : ℕ → List (List ℤ) → Type 0
Clear j rows = AllByRecursion (λ r. factor j r ≡ pos 0) rows

-- coefficients of at most b, and a constant of at most 1,024 times that
pub record Small (b : ℕ) (r : List ℤ) : Type 0 where
  pub constant : unsigned_abs (factor 0 r) ≤ 1024 * b
  pub coefficients : (j : ℕ) → 0 < j → unsigned_abs (factor j r) ≤ b

-- a row without a common factor of its numbers
pub record IsReduced (row new : List ℤ) : Type 0 where
  pub divisor : ℤ
  pub positive : pos 0 <ℤ divisor
  pub product : row ≡ scale divisor new

-- Rows that stand for others: the same rational points and directions, and no greater numbers.
pub record StandsFor (rows out : List (List ℤ)) : Type 0 where
  pub kept : (v : List ℤ) → pos 0 ≤ℤ factor 0 v → Satisfies rows v → Satisfies out v
  pub back : (v : List ℤ) → pos 0 ≤ℤ factor 0 v → Satisfies out v → Satisfies rows v
  pub small : (b : ℕ) → AllByRecursion (Small b) rows → AllByRecursion (Small b) out
  pub clear : (j : ℕ) → Clear j rows → Clear j out

-- The rows out are the rows without place k: what satisfies the rows satisfies them, and what satisfies them is, over a
-- common denominator s and with some number at k, one that satisfies the rows.
pub record Projects (k : ℕ) (rows out : List (List ℤ)) : Type 0 where
  pub kept : (v : List ℤ) → pos 0 ≤ℤ factor 0 v → Satisfies rows v → Satisfies out v
  pub back : (v : List ℤ) → pos 0 ≤ℤ factor 0 v → k < length v → Satisfies out v →
      (s : ℤ) × (t : ℤ) × (pos 0 <ℤ s) × Satisfies rows (slice_set (scale s v) k t)

-- Out is the shadow of the rows on places 0 and k, where only places below n are written: what satisfies the rows
-- satisfies it, and what satisfies it is, over a common denominator s, at those two places one that satisfies the rows.
pub record Shadow (n k : ℕ) (rows out : List (List ℤ)) : Type 0 where
  pub kept : (v : List ℤ) → pos 0 ≤ℤ factor 0 v → Satisfies rows v → Satisfies out v
  pub back : (v : List ℤ) → pos 0 ≤ℤ factor 0 v → n ≤ length v → Satisfies out v →
      (s : ℤ) × (w : List ℤ) × (pos 0 <ℤ s) × (length w ≡ length v) × (factor 0 w ≡ s *ℤ factor 0 v) × (factor k w ≡ s *ℤ factor k v) × Satisfies rows w
