-- The rows of small domains, normalised, with their rational points and rays.
use Rattle.std.proofs.Common.{◌≡◌, zero, suc, ℤ, pos, negsuc, ◌+ℤ◌, ◌*ℤ◌, ◌≤ℤ◌, ◌<ℤ◌, List, [], ◌∷◌, Some, inl, inr, refl, sym, ap, subst, ◌∙◌, arith}
use Rattle.std.specs.Prelude.{unsigned_abs, Any}
use Rattle.std.specs.Int.{int_div_euclid}
use Rattle.std.proofs.lemmas.Int.{ints}
use Rattle.std.proofs.lemmas.List.Elements.{All-from_recursion, recursion_from_All}
use Rattle.std.proofs.lemmas.Nat.Gcd.{dvd_refl, dvd_antisymm}
use Prim.Native.Nat.{◌∣◌}
use Rattle.av_base.specs.Tokens.{start}
use Rattle.av_tree.specs.declared.relation.Relation.TheVariants as relation
use Rattle.av_tree.specs.Rows.{Row, rows_of, IsGcdOf, IsDivided, IsNever, IsNormalised, IsRationalPoint, IsUnbounded}
use Rattle.av_tree.proofs.Shorthand.{i, j, n, number, multiple, named, is, domain, three}

-- ---- rows of comparisons

abbrev row : List ℤ → ℤ → Row
row a c = record { coefficients = a; constant = c }

strip_rows : rows_of three (domain (i ∷ j ∷ []) (is (number 1) relation.LessEqual (named i) ∷ is (named i) relation.LessEqual (named n) ∷ is (number 0) relation.LessEqual (named j) ∷ [])) ≡ row (pos 1 ∷ pos 0 ∷ []) (negsuc 0) ∷ row (negsuc 0 ∷ pos 0 ∷ []) (pos 3) ∷ row (pos 0 ∷ pos 1 ∷ []) (pos 0) ∷ []
strip_rows = refl

-- j<i is i - j - 1 >= 0
strict_row : rows_of three (domain (i ∷ j ∷ []) (is (named j) relation.Less (named i) ∷ [])) ≡ row (pos 1 ∷ negsuc 0 ∷ []) (negsuc 0) ∷ []
strict_row = refl

-- an equality gives two rows, and like terms are added: 2i = i+N is i = N
equal_rows : rows_of three (domain (i ∷ []) (is (multiple (pos 2) i) relation.Equal (record { terms = record { factor = pos 1; name = Some i; place = start } ∷ record { factor = pos 1; name = Some n; place = start } ∷ []; place = start }) ∷ []))
    ≡ row (pos 1 ∷ []) (negsuc 2) ∷ row (negsuc 0 ∷ []) (pos 3) ∷ []
equal_rows = refl

-- ---- divided rows of one index

-- the divisor is the coefficient's absolute value
divisor_is : (a c : ℤ) (r : Row) (h : IsDivided (row (a ∷ []) c) r) → h.divisor ≡ unsigned_abs a
divisor_is a c r h =
    let g = h.divisor in
    dvd_antisymm (recursion_from_All (λ x. g ∣ unsigned_abs x) (a ∷ []) h.gcd.divides).0
    (h.gcd.greatest (unsigned_abs a) (All-from_recursion (λ x. unsigned_abs a ∣ unsigned_abs x) (a ∷ []) (dvd_refl (unsigned_abs a), tt)))

coefficients_are : (a c : ℤ) (r : Row) → IsDivided (row (a ∷ []) c) r → r.coefficients ≡ int_div_euclid a (pos (unsigned_abs a)) ∷ []
coefficients_are a c r h = h.coefficients ∙ ap (λ g. int_div_euclid a (pos g) ∷ []) (divisor_is a c r h)

constant_is : (a c : ℤ) (r : Row) → IsDivided (row (a ∷ []) c) r → r.constant ≡ int_div_euclid c (pos (unsigned_abs a))
constant_is a c r h = h.constant ∙ ap (λ g. int_div_euclid c (pos g)) (divisor_is a c r h)

gcd_of_one : (a : ℤ) → IsGcdOf (a ∷ []) (unsigned_abs a)
gcd_of_one a = record {
  divides = All-from_recursion (λ x. unsigned_abs a ∣ unsigned_abs x) (a ∷ []) (dvd_refl (unsigned_abs a), tt);
  greatest = λ d all. (recursion_from_All (λ x. d ∣ unsigned_abs x) (a ∷ []) all).0;
}

-- 2i <= 3 is i <= 1 when it is divided
divided : IsDivided (row (negsuc 1 ∷ []) (pos 3)) (row (negsuc 0 ∷ []) (pos 1))
divided = record { divisor = 2; positive = omega arith; gcd = gcd_of_one (negsuc 1); coefficients = refl; constant = refl }

-- ---- {i | i>=1} is unbounded

abbrev upwards : List Row
upwards = rows_of three (domain (i ∷ []) (is (named i) relation.GreaterEqual (number 1) ∷ []))

the_one : (P : Row → Type 0) (r : Row) → Any P (r ∷ []) → P r
the_one P r (zero, other, lt, at, p) = subst P (sym at) p
the_one P r (suc k, other, lt, at, p) = absurd (omega arith)

upward_row : (r : Row) → IsNormalised 1 upwards r → (r.coefficients ≡ pos 1 ∷ []) × (r.constant ≡ negsuc 0)
upward_row r (inl (never, is_it)) =
    let h = the_one IsNever (row (pos 1 ∷ []) (negsuc 0)) never in
    let wrong : pos 1 ≡ pos 0 = (recursion_from_All (λ x. x ≡ pos 0) (pos 1 ∷ []) h.no_coefficients).0 in
    absurd cc
upward_row r (inr (none, tight)) =
    let h = the_one (λ old. IsDivided old r) (row (pos 1 ∷ []) (negsuc 0)) tight.divided in
    (coefficients_are (pos 1) (negsuc 0) r h, constant_is (pos 1) (negsuc 0) r h)

unbounded : IsUnbounded 1 upwards
unbounded = record {
  divisor = pos 1;
  point = pos 1 ∷ [];
  is_point = record { size = refl; positive = omega (arith, ints); holds = λ r h. rw ((upward_row r h).0, (upward_row r h).1) (omega (arith, ints)) };
  ray = pos 1 ∷ [];
  is_ray = record {
    size = refl;
    moves = (0, pos 1, omega arith, refl, λ e. absurd cc);
    holds = λ r h. rw (upward_row r h).0 (omega (arith, ints));
  };
}

-- ---- {i | 2i>=1; 2i<=1} has no rational point: its normalised rows say i >= 1 and i <= 0

abbrev halves : List Row
halves = rows_of three (domain (i ∷ []) (is (multiple (pos 2) i) relation.GreaterEqual (number 1) ∷ is (multiple (pos 2) i) relation.LessEqual (number 1) ∷ []))

no_false_row : Any IsNever halves → ⊥
no_false_row (zero, r, lt, at, never) =
    let h = subst IsNever (sym at) never in
    let wrong : pos 2 ≡ pos 0 = (recursion_from_All (λ x. x ≡ pos 0) (pos 2 ∷ []) h.no_coefficients).0 in cc
no_false_row (suc zero, r, lt, at, never) =
    let h = subst IsNever (sym at) never in
    let wrong : negsuc 1 ≡ pos 0 = (recursion_from_All (λ x. x ≡ pos 0) (negsuc 1 ∷ []) h.no_coefficients).0 in cc
no_false_row (suc (suc k), r, lt, at, never) = omega arith

apart : (r : Row) → r.coefficients ≡ pos 1 ∷ [] → r.coefficients ≡ negsuc 0 ∷ [] → ⊥
apart r e h = let wrong : ◌≡◌ {A = List ℤ} (pos 1 ∷ []) (negsuc 0 ∷ []) = sym e ∙ h in absurd cc

at_least_one : IsNormalised 1 halves (row (pos 1 ∷ []) (negsuc 0))
at_least_one = inr (
  no_false_row,
  record {
    divided = (0, row (pos 2 ∷ []) (negsuc 0), omega arith, refl, record { divisor = 2; positive = omega arith; gcd = gcd_of_one (pos 2); coefficients = refl; constant = refl });
    least = All-from_recursion (λ (old : Row). (other : Row) → IsDivided old other → other.coefficients ≡ pos 1 ∷ [] → negsuc 0 ≤ℤ other.constant) halves (
      (λ other h e. rw (constant_is (pos 2) (negsuc 0) other h) (omega (arith, ints))),
      ((λ other h e. absurd (apart other e (coefficients_are (negsuc 1) (pos 1) other h))), tt),
    );
  },
)

at_most_zero : IsNormalised 1 halves (row (negsuc 0 ∷ []) (pos 0))
at_most_zero = inr (
  no_false_row,
  record {
    divided = (1, row (negsuc 1 ∷ []) (pos 1), omega arith, refl, record { divisor = 2; positive = omega arith; gcd = gcd_of_one (negsuc 1); coefficients = refl; constant = refl });
    least = All-from_recursion (λ (old : Row). (other : Row) → IsDivided old other → other.coefficients ≡ negsuc 0 ∷ [] → pos 0 ≤ℤ other.constant) halves (
      (λ other h e. absurd (apart other (coefficients_are (pos 2) (negsuc 0) other h) e)),
      ((λ other h e. rw (constant_is (negsuc 1) (pos 1) other h) (omega (arith, ints))), tt),
    );
  },
)

none_between : (m y : ℤ) → pos 0 <ℤ m → pos 0 ≤ℤ (pos 1 *ℤ y +ℤ pos 0 +ℤ negsuc 0 *ℤ m) → pos 0 ≤ℤ (negsuc 0 *ℤ y +ℤ pos 0 +ℤ pos 0 *ℤ m) → ⊥
none_between m y p e h = omega (arith, ints)

empty : (m : ℤ) (y : List ℤ) → IsRationalPoint 1 halves m y → ⊥
empty m [] p = let e = p.size in omega arith
empty m (x ∷ []) p = none_between m x p.positive (p.holds _ at_least_one) (p.holds _ at_most_zero)
empty m (x ∷ z ∷ y) p = let e = p.size in omega arith
