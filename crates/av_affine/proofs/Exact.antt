-- A vector divided by the greatest common divisor of its entries.
use Rattle.std.proofs.Common.{◌≡◌, ◌≢◌, ℕ, zero, suc, ◌*◌, ◌<◌, ◌≤◌, ◌%◌, ◌/◌, arith, ℤ, pos, ◌+ℤ◌, ◌-ℤ◌, ◌*ℤ◌, ◌≤ℤ◌, ◌<ℤ◌, neg_ℤ, List, [], ◌∷◌, map, refl, ap, ap₂, sym, ◌∙◌, subst, mod-lt}
use Rattle.std.proofs.Math.IntN.{negsuc, *ℤ_comm}
use Rattle.std.specs.List.{AllByRecursion, Any}
use Rattle.std.proofs.lemmas.Nat.Gcd.{le_of_dvd}
use Rattle.std.specs.Int.{int_div_euclid}
use Rattle.std.specs.Int.RustNames.{unsigned_abs}
use Rattle.std.proofs.Math.Nat.{dvd_of_mul-dvd-mul_left, mul-dvd-mul_left, one-dvd, div-mul_cancel, div-add-mod', mul-one, eq-zero_of_zero-dvd}
use Rattle.std.proofs.lemmas.Int.{ints, unsigned_abs-mul}
use Rattle.std.proofs.lemmas.List.Elements.{All-from_recursion, recursion_from_All}
use Prim.Native.Nat.{◌∣◌}
use Rattle.av_affine.proofs.Ring.{ring, neg_times}
use Rattle.av_affine.proofs.Order.{nonneg_by, positive_by}
use Rattle.av_affine.specs.Numbers.{IsGcdOf, AtMost}

pub div_bounds : (c a : ℤ) → pos 0 <ℤ a → ((int_div_euclid c a *ℤ a) ≤ℤ c) × (c <ℤ (int_div_euclid c a *ℤ a +ℤ a))
div_bounds (pos c) (pos zero) h = absurd (omega (arith, ints))
div_bounds (pos c) (pos (suc a)) h = let e = div-add-mod' c (suc a) in let f : c % suc a < suc a = mod-lt c (omega arith) in (omega (arith, ints, e), omega (arith, ints, e, f))
div_bounds (negsuc c) (pos zero) h = absurd (omega (arith, ints))
div_bounds (negsuc c) (pos (suc a)) h = let e = div-add-mod' c (suc a) in let f : c % suc a < suc a = mod-lt c (omega arith) in (omega (arith, ints, e, f), omega (arith, ints, e, f))
div_bounds c (negsuc a) h = absurd h.lt

-- where g divides c, the quotient is exact
pub exact : (c : ℤ) (g : ℕ) → 0 < g → g ∣ unsigned_abs c → int_div_euclid c (pos g) *ℤ pos g ≡ c
exact (pos c) g h d = let e : c / g * g ≡ c = div-mul_cancel g d in omega (arith, ints, e)
exact (negsuc c) g h d =
    let e : suc c / g * g ≡ suc c = div-mul_cancel g d in
    squeezed (int_div_euclid (negsuc c) (pos g)) (neg_ℤ (pos (suc c / g))) (negsuc c) g h (rw neg_times (omega (arith, ints, e))) (div_bounds (negsuc c) (pos g) (omega (arith, ints))).0 (div_bounds (negsuc c) (pos g) (omega (arith, ints))).1
  where
    squeezed : (q t c : ℤ) (g : ℕ) → 0 < g → t *ℤ pos g ≡ c → (q *ℤ pos g) ≤ℤ c → c <ℤ (q *ℤ pos g +ℤ pos g) → q *ℤ pos g ≡ c
    squeezed q t c g h e k l =
        let a = nonneg_by (pos g) (t -ℤ q) (omega (arith, ints)) (simp ring (omega (arith, ints, e, k))) in
        let b = positive_by (pos g) (q +ℤ pos 1 -ℤ t) (omega (arith, ints)) (simp ring (omega (arith, ints, e, l))) in
        let f : q ≡ t = omega (arith, ints, a, b) in
        rw f e

abbrev pub divided : List ℤ → ℕ → List ℤ
divided xs g = map (λ x. int_div_euclid x (pos g)) xs

-- a common divisor of the quotients times g is one of the numbers
times_g : (xs : List ℤ) (g d : ℕ) → 0 < g → AllByRecursion (λ x. g ∣ unsigned_abs x) xs → AllByRecursion (λ x. d ∣ unsigned_abs x) (divided xs g) → AllByRecursion (λ x. g * d ∣ unsigned_abs x) xs
times_g [] g d h a b = tt
times_g (x ∷ xs) g d h a b = (one x g d h a.0 b.0, times_g xs g d h a.1 b.1)
  where
    one : (x : ℤ) (g d : ℕ) → 0 < g → g ∣ unsigned_abs x → d ∣ unsigned_abs (int_div_euclid x (pos g)) → g * d ∣ unsigned_abs x
    one x g d h a b =
        let q = int_div_euclid x (pos g) in
        let e : g * unsigned_abs q ≡ unsigned_abs x = omega (arith, unsigned_abs-mul q (pos g), ap unsigned_abs (exact x g h a)) in
        subst (λ (n : ℕ). g * d ∣ n) e (mul-dvd-mul_left d g b)

each_one : (xs : List ℤ) → AllByRecursion (λ x. 1 ∣ unsigned_abs x) xs
each_one [] = tt
each_one (x ∷ xs) = (one-dvd (unsigned_abs x), each_one xs)

-- the quotients have no common divisor but 1
pub divided_primitive : (xs : List ℤ) (g : ℕ) → 0 < g → IsGcdOf xs g → IsGcdOf (divided xs g) 1
divided_primitive xs g h s = record {
  divides = All-from_recursion (λ x. 1 ∣ unsigned_abs x) (divided xs g) (each_one (divided xs g));
  greatest = λ d k.
      let a = s.greatest (g * d) (All-from_recursion (λ x. g * d ∣ unsigned_abs x) xs (times_g xs g d h (recursion_from_All (λ x. g ∣ unsigned_abs x) xs s.divides) (recursion_from_All (λ x. d ∣ unsigned_abs x) (divided xs g) k))) in
      dvd_of_mul-dvd-mul_left {k = g} d h (subst (λ (n : ℕ). g * d ∣ n) (sym (mul-one g)) a);
}

-- the numbers again
pub divided_times : (xs : List ℤ) (g : ℕ) → 0 < g → IsGcdOf xs g → xs ≡ map (λ x. pos g *ℤ x) (divided xs g)
divided_times xs g h s = go xs g h (recursion_from_All (λ x. g ∣ unsigned_abs x) xs s.divides)
  where
    go : (xs : List ℤ) (g : ℕ) → 0 < g → AllByRecursion (λ x. g ∣ unsigned_abs x) xs → xs ≡ map (λ x. pos g *ℤ x) (divided xs g)
    go [] g h d = refl
    go (x ∷ xs) g h d = ap₂ (λ (y : ℤ) ys. y ∷ ys) (sym (exact x g h d.0) ∙ *ℤ_comm (int_div_euclid x (pos g)) (pos g)) (go xs g h d.1)

-- no quotient is greater than its number
pub divided_most : (xs : List ℤ) (g limit : ℕ) → 0 < g → IsGcdOf xs g → AtMost limit xs → AtMost limit (divided xs g)
divided_most xs g limit h s most = All-from_recursion (λ x. unsigned_abs x ≤ limit) (divided xs g) (go xs g h (recursion_from_All (λ x. g ∣ unsigned_abs x) xs s.divides) (recursion_from_All (λ x. unsigned_abs x ≤ limit) xs most))
  where
    smaller : (q g x limit : ℕ) → 0 < g → q * g ≡ x → x ≤ limit → q ≤ limit
    smaller q zero x limit h e m = absurd (omega arith)
    smaller q (suc g) x limit h e m = omega (arith, e, m)

    go : (xs : List ℤ) (g : ℕ) → 0 < g → AllByRecursion (λ x. g ∣ unsigned_abs x) xs → AllByRecursion (λ x. unsigned_abs x ≤ limit) xs → AllByRecursion (λ x. unsigned_abs x ≤ limit) (divided xs g)
    go [] g h d m = tt
    go (x ∷ xs) g h d m =
        let e = unsigned_abs-mul (int_div_euclid x (pos g)) (pos g) in
        let f = ap unsigned_abs (exact x g h d.0) in
        (smaller (unsigned_abs (int_div_euclid x (pos g))) g (unsigned_abs x) limit h (omega (arith, e, f)) m.0, go xs g h d.1 m.1)

-- the greatest common divisor of numbers that are not all 0 is at least 1, and at most the greatest of them
pub divisor_positive : (xs : List ℤ) (g : ℕ) → IsGcdOf xs g → Any (λ x. x ≢ pos 0) xs → 0 < g
divisor_positive xs zero s (k, x, l, e, h) = absurd (h (sym e ∙ (let n = eq-zero_of_zero-dvd (s.divides k x l) in omega (arith, ints, n))))
divisor_positive xs (suc g) s w = omega arith

pub divisor_most : (xs : List ℤ) (g limit : ℕ) → IsGcdOf xs g → Any (λ x. x ≢ pos 0) xs → AtMost limit xs → g ≤ limit
divisor_most xs g limit s (k, x, l, e, h) most =
    let d : g ∣ unsigned_abs x = subst (λ (y : ℤ). g ∣ unsigned_abs y) e (s.divides k x l) in
    let m : unsigned_abs x ≤ limit = subst (λ (y : ℤ). unsigned_abs y ≤ limit) e (most k x l) in
    let n = le_of_dvd (not_none x h) d in
    omega (arith, m, n)
  where
    not_none : (x : ℤ) → x ≢ pos 0 → 0 < unsigned_abs x
    not_none (pos zero) h = absurd (h refl)
    not_none (pos (suc x)) h = omega arith
    not_none (negsuc x) h = omega arith
