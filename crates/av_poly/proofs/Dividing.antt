-- A row divided by the greatest common divisor of its coefficients.
use Rattle.std.proofs.Common.{◌≡◌, ℕ, zero, suc, ◌<◌, ◌≤◌, ◌/◌, ◌^◌, ◌↔◌, arith, ℤ, pos, ◌+ℤ◌, ◌*ℤ◌, ◌≤ℤ◌, List, [], ◌∷◌, length, map, refl, ap, ap₂, sym, ◌∙◌, subst}
use Rattle.std.proofs.Math.IntN.{negsuc}
use Rattle.std.specs.List.{All, AllByRecursion}
use Rattle.std.specs.Int.{int_div_euclid}
use Rattle.std.specs.Int.RustNames.{unsigned_abs}
use Rattle.std.proofs.Math.Nat.{eq-zero_of_zero-dvd, div-le_self, dvd-zero}
use Rattle.std.proofs.lemmas.Int.{ints}
use Rattle.std.proofs.lemmas.List.Elements.{All-from_recursion, recursion_from_All, All-weaker}
use Rattle.std.proofs.lemmas.Nat.Gcd.{dvd_antisymm}
use Prim.Native.Nat.{◌∣◌}
use Rattle.av_affine.specs.declared.form.Form.{Form}
use Rattle.av_affine.specs.Numbers.{dot, AtMost, IsGcdOf}
use Rattle.av_affine.specs.Forms.{value_at}
use Rattle.av_affine.proofs.Ring.{ring, cube}
use Rattle.av_affine.proofs.Order.{product_nonneg, positive_by}
use Rattle.av_affine.proofs.Exact.{div_bounds, exact, divided, divided_most}
use Rattle.av_poly.specs.Points.{HoldsAt, IsSmall}
use Rattle.av_poly.specs.Normal.{counted, IsConstant, IsDivided}

-- ---- the coefficients that count

pub counted_most : (limit n : ℕ) (xs : List ℤ) → AtMost limit xs → AtMost limit (counted n xs)
counted_most limit n xs h = All-from_recursion (λ x. unsigned_abs x ≤ limit) (counted n xs) (go n xs (recursion_from_All (λ x. unsigned_abs x ≤ limit) xs h))
  where
    go : (n : ℕ) (xs : List ℤ) → AllByRecursion (λ x. unsigned_abs x ≤ limit) xs → AllByRecursion (λ x. unsigned_abs x ≤ limit) (counted n xs)
    go n [] h = tt
    go zero (x ∷ xs) h = (omega arith, go zero xs h.1)
    go (suc n) (x ∷ xs) h = (h.0, go n xs h.1)

pub dot_counted : (n : ℕ) (xs z : List ℤ) → length z ≡ n → dot (counted n xs) z ≡ dot xs z
dot_counted n [] z h = refl
dot_counted zero (x ∷ xs) [] h = refl
dot_counted zero (x ∷ xs) (y ∷ z) h = absurd (omega (arith, h))
dot_counted (suc n) (x ∷ xs) [] h = refl
dot_counted (suc n) (x ∷ xs) (y ∷ z) h = ap (λ d. x *ℤ y +ℤ d) (dot_counted n xs z (omega (arith, h)))

pub none_counted : (xs : List ℤ) → IsGcdOf xs 0 → All (λ x. x ≡ pos 0) xs
none_counted xs s = All-from_recursion (λ x. x ≡ pos 0) xs (go xs (recursion_from_All (λ x. 0 ∣ unsigned_abs x) xs s.divides))
  where
    go : (xs : List ℤ) → AllByRecursion (λ x. 0 ∣ unsigned_abs x) xs → AllByRecursion (λ x. x ≡ pos 0) xs
    go [] h = tt
    go (x ∷ xs) h = let a = eq-zero_of_zero-dvd h.0 in (omega (arith, ints, a), go xs h.1)

pub dot_constant : (xs z : List ℤ) → All (λ x. x ≡ pos 0) xs → dot xs z ≡ pos 0
dot_constant xs z h = go xs z (recursion_from_All (λ x. x ≡ pos 0) xs h)
  where
    go : (xs z : List ℤ) → AllByRecursion (λ x. x ≡ pos 0) xs → dot xs z ≡ pos 0
    go [] z h = refl
    go (x ∷ xs) [] h = refl
    go (x ∷ xs) (y ∷ z) h = let e = h.0 in let f = go xs z h.1 in rw (e, f) (omega (arith, ints))

-- a row without coefficients has its constant as its value
pub value_constant : (dim : ℕ) (row : Form) (z : List ℤ) → length z ≡ dim → IsConstant dim row → value_at row z ≡ row.constant
value_constant dim row z h k =
    let e = dot_constant (counted dim row.coef) z k in
    let f = dot_counted dim row.coef z h in
    omega (arith, ints, e, f)

-- ---- the points of a divided row

dot_divided : (xs z : List ℤ) (g : ℕ) → 0 < g → AllByRecursion (λ x. g ∣ unsigned_abs x) xs → dot xs z ≡ pos g *ℤ dot (divided xs g) z
dot_divided [] z g h d = omega (arith, ints)
dot_divided (x ∷ xs) [] g h d = omega (arith, ints)
dot_divided (x ∷ xs) (y ∷ z) g h d = plain x y (int_div_euclid x (pos g)) (pos g) (dot xs z) (dot (divided xs g) z) (exact x g h d.0) (dot_divided xs z g h d.1)
  where
    plain : (x y q g a b : ℤ) → q *ℤ g ≡ x → a ≡ g *ℤ b → x *ℤ y +ℤ a ≡ g *ℤ (q *ℤ y +ℤ b)
    plain x y q g a b e f = rw (← e, f) (simp ring (omega (arith, ints, cube)))

-- rounding the constant down changes no point
rounded : (t c : ℤ) (g : ℕ) → 0 < g → (pos 0 ≤ℤ (pos g *ℤ t +ℤ c)) ↔ (pos 0 ≤ℤ (t +ℤ int_div_euclid c (pos g)))
rounded t c g h =
    let q = int_div_euclid c (pos g) in
    let d = div_bounds c (pos g) (omega (arith, ints)) in (
      λ a. let p = positive_by (pos g) (t +ℤ q +ℤ pos 1) (omega (arith, ints)) (simp ring (omega (arith, ints, a, d.1))) in omega (arith, ints, p),
      λ a. let p = product_nonneg (pos g) (t +ℤ q) (omega (arith, ints)) a in let r = simp ring at p in omega (arith, ints, r, d.0),
    )

pub same_points : (dim : ℕ) (row new : Form) (z : List ℤ) → length z ≡ dim → IsDivided dim row new → HoldsAt row z ↔ HoldsAt new z
same_points dim row new z h s =
    let xs = counted dim row.coef in
    let g = s.divisor in
    let e : dot row.coef z ≡ pos g *ℤ dot (divided xs g) z = sym (dot_counted dim row.coef z h) ∙ dot_divided xs z g s.positive (recursion_from_All (λ x. g ∣ unsigned_abs x) xs s.gcd.divides) in
    let d : dot new.coef z ≡ dot (divided xs g) z = ap (λ ys. dot ys z) s.coef in
    let r = rounded (dot (divided xs g) z) row.constant g s.positive in
    rw (e, d, s.constant) r

-- ---- its size

quotient_most : (a g : ℕ) → 0 < g → a / g ≤ a
quotient_most a g h = div-le_self a g

pub constant_most : (c : ℤ) (g limit : ℕ) → 0 < g → unsigned_abs c ≤ limit → unsigned_abs (int_div_euclid c (pos g)) ≤ limit
constant_most (pos a) g limit h k = let q = quotient_most a g h in omega (arith, q, k)
constant_most (negsuc a) g limit h k = let q = quotient_most a g h in omega (arith, q, k)

pub divided_small : (dim : ℕ) (row new : Form) → IsDivided dim row new → IsSmall row → IsSmall new
divided_small dim row new s h = record {
  coefficients = subst (AtMost (2 ^ 40)) (sym s.coef) (divided_most (counted dim row.coef) s.divisor (2 ^ 40) s.positive s.gcd (counted_most (2 ^ 40) dim row.coef h.coefficients));
  constant = rw s.constant (constant_most row.constant s.divisor (2 ^ 40) s.positive h.constant);
}

-- a row that is divided has a coefficient
pub not_constant : (dim : ℕ) (row new : Form) → IsDivided dim row new → IsConstant dim row → ⊥
not_constant dim row new s h =
    let xs = counted dim row.coef in
    let d : 0 ∣ s.divisor = s.gcd.greatest 0 (All-weaker (λ x. x ≡ pos 0) (λ x. 0 ∣ unsigned_abs x) (λ x e. subst (λ (y : ℤ). 0 ∣ unsigned_abs y) (sym e) (dvd-zero 0)) xs h) in
    let e = eq-zero_of_zero-dvd d in
    let p = s.positive in
    omega (arith, e, p)

-- ---- one division

-- what a row is divided to is one row
pub divided_once : (dim : ℕ) (row a b : Form) → IsDivided dim row a → IsDivided dim row b → a ≡ b
divided_once dim row a b p q =
    let e : p.divisor ≡ q.divisor = dvd_antisymm (q.gcd.greatest p.divisor p.gcd.divides) (p.gcd.greatest q.divisor q.gcd.divides) in
    ap₂ (λ coef constant. record { coef = coef; constant = constant })
    (p.coef ∙ ap (λ g. map (λ x. int_div_euclid x (pos g)) (counted dim row.coef)) e ∙ sym q.coef)
    (p.constant ∙ ap (λ g. int_div_euclid row.constant (pos g)) e ∙ sym q.constant)

-- the greatest common divisor of the coefficients that count is small where they are
pub divisor_small : (n : ℕ) (r xs : List ℤ) (g : ℕ) → xs ≡ counted n r → AtMost (2 ^ 40) r → ((most : ℕ) → AtMost most xs → g ≤ most) → g ≤ 2 ^ 40
divisor_small n r xs g is small most = most (2 ^ 40) (subst (AtMost (2 ^ 40)) (sym is) (counted_most (2 ^ 40) n r small))
