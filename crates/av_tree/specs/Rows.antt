-- The normalised rows of a domain, with their rational points and rays, in whole numbers (Wilde's reports on
-- Alpha; Schrijver, Theory of Linear and Integer Programming).
use Rattle.std.specs.Prelude.{◌≡◌, ◌≢◌, ℕ, ◌<◌, ℤ, pos, negsuc, ◌+ℤ◌, ◌-ℤ◌, ◌*ℤ◌, ◌≤ℤ◌, ◌<ℤ◌, ◌⊎◌, unsigned_abs, Bool, false, ◌||◌, List, [], ◌∷◌, map, length, replicate, All, Any, Option, Some, None, if◌then◌else◌, bytes_eq}
use Rattle.std.specs.Int.{int_div_euclid}
use Rattle.std.specs.List.{flat_map}
use Prim.Native.Nat.{◌∣◌}
use Rattle.av_tree.specs.declared.domain.Term.{Term}
use Rattle.av_tree.specs.declared.domain.IndexExpr.{IndexExpr}
use Rattle.av_tree.specs.declared.domain.DomainText.{DomainText}
use Rattle.av_tree.specs.declared.relation.Relation.{Relation}
use Rattle.av_tree.specs.declared.relation.Relation.TheVariants as relation
use Rattle.av_tree.specs.Trees.{Text}
use Rattle.av_tree.specs.Points.{Sizes, is_named}

-- what says that the sum of coefficients times indices, and the constant, is not below 0
pub record Row : Type 0 where
  pub coefficients : List ℤ
  pub constant : ℤ

-- ---- the rows of comparisons, with like terms added and the sizes put in

-- the factors of one index together
abbrev pub coefficient : List Term → Text → ℤ
coefficient [] name = pos 0
coefficient (t ∷ terms) name = (if is_named name t.name then t.factor else pos 0) +ℤ coefficient terms name

abbrev pub is_index : List Text → Text → Bool
is_index [] name = false
is_index (n ∷ names) name = bytes_eq n name || is_index names name

abbrev pub or_zero : Option ℤ → ℤ
or_zero None = pos 0
or_zero (Some k) = k

-- what a term adds to the constant: nothing where it names an index
abbrev pub fixed : Sizes → List Text → ℤ → Option Text → ℤ
fixed sizes names factor None = factor
fixed sizes names factor (Some name) = if is_index names name then pos 0 else factor *ℤ or_zero (sizes name)

abbrev pub constant : Sizes → List Text → List Term → ℤ
constant sizes names [] = pos 0
constant sizes names (t ∷ terms) = fixed sizes names t.factor t.name +ℤ constant sizes names terms

-- a is at least b + gap
abbrev pub at_least : Sizes → List Text → IndexExpr → IndexExpr → ℤ → Row
at_least sizes names a b gap = record {
  coefficients = map (λ name. coefficient a.terms name -ℤ coefficient b.terms name) names;
  constant = constant sizes names a.terms -ℤ constant sizes names b.terms -ℤ gap;
}

-- an equality gives two rows; an inequality stands in no domain
abbrev pub compared : Sizes → List Text → IndexExpr → Relation → IndexExpr → List Row
compared sizes names a relation.Less b = at_least sizes names b a (pos 1) ∷ []
compared sizes names a relation.LessEqual b = at_least sizes names b a (pos 0) ∷ []
compared sizes names a relation.Greater b = at_least sizes names a b (pos 1) ∷ []
compared sizes names a relation.GreaterEqual b = at_least sizes names a b (pos 0) ∷ []
compared sizes names a relation.Equal b = at_least sizes names a b (pos 0) ∷ at_least sizes names b a (pos 0) ∷ []
compared sizes names a relation.Unequal b = []

abbrev pub rows_of : Sizes → DomainText → List Row
rows_of sizes d = flat_map (λ c. compared sizes d.names c.left c.relation c.right) d.constraints

-- ---- normalised rows

-- g is the greatest common divisor of the numbers, and 0 where all are 0
pub record IsGcdOf (xs : List ℤ) (g : ℕ) : Type 0 where
  pub divides : All (λ x. g ∣ unsigned_abs x) xs
  pub greatest : (d : ℕ) → All (λ x. d ∣ unsigned_abs x) xs → d ∣ g

-- the row divided by the greatest common divisor of its coefficients, of which it has one, its constant rounded down
pub record IsDivided (row divided : Row) : Type 0 where
  pub divisor : ℕ
  pub positive : 0 < divisor
  pub gcd : IsGcdOf row.coefficients divisor
  pub coefficients : divided.coefficients ≡ map (λ x. int_div_euclid x (pos divisor)) row.coefficients
  pub constant : divided.constant ≡ int_div_euclid row.constant (pos divisor)

-- a row without coefficients that holds nowhere
pub record IsNever (row : Row) : Type 0 where
  pub no_coefficients : All (λ x. x ≡ pos 0) row.coefficients
  pub negative : row.constant <ℤ pos 0

-- a divided row, with the least constant of all divided rows that have its coefficients
pub record IsTightest (rows : List Row) (row : Row) : Type 0 where
  pub divided : Any (λ old. IsDivided old row) rows
  pub least : All (λ old. (other : Row) → IsDivided old other → other.coefficients ≡ row.coefficients → row.constant ≤ℤ other.constant) rows

-- the row 0 >= 1
abbrev pub impossible : ℕ → Row
impossible dim = record { coefficients = replicate dim (pos 0); constant = negsuc 0 }

-- one of the normalised rows: these are the tightest ones, or the row 0 >= 1 alone where some row holds nowhere
abbrev pub IsNormalised : ℕ → List Row → Row → Type 0
IsNormalised dim rows row = (Any IsNever rows × (row ≡ impossible dim)) ⊎ ((Any IsNever rows → ⊥) × IsTightest rows row)

-- ---- rational points and rays

-- the sum of the products of the entries, as far as both lists go
abbrev pub dot : List ℤ → List ℤ → ℤ
dot [] ys = pos 0
dot (x ∷ xs) [] = pos 0
dot (x ∷ xs) (y ∷ ys) = x *ℤ y +ℤ dot xs ys

-- y/m is a rational point: each normalised row holds at it
pub record IsRationalPoint (dim : ℕ) (rows : List Row) (m : ℤ) (y : List ℤ) : Type 0 where
  pub size : length y ≡ dim
  pub positive : pos 0 <ℤ m
  pub holds : (row : Row) → IsNormalised dim rows row → pos 0 ≤ℤ (dot row.coefficients y +ℤ row.constant *ℤ m)

-- a direction other than 0 in which no normalised row ends
pub record IsRationalRay (dim : ℕ) (rows : List Row) (d : List ℤ) : Type 0 where
  pub size : length d ≡ dim
  pub moves : Any (λ x. x ≢ pos 0) d
  pub holds : (row : Row) → IsNormalised dim rows row → pos 0 ≤ℤ dot row.coefficients d

-- both a rational point and a rational ray
pub record IsUnbounded (dim : ℕ) (rows : List Row) : Type 0 where
  pub divisor : ℤ
  pub point : List ℤ
  pub is_point : IsRationalPoint dim rows divisor point
  pub ray : List ℤ
  pub is_ray : IsRationalRay dim rows ray
