-- Each list of rows has normalised rows.
use Rattle.std.proofs.Common.{◌≡◌, ◌≢◌, ℕ, zero, suc, ◌<◌, ◌%◌, ◌⊎◌, inl, inr, arith, ℤ, pos, ◌≤ℤ◌, ◌<ℤ◌, List, [], ◌∷◌, ◌++◌, length, map, get_or, refl, sym, ap, subst, ◌∙◌, append_assoc, append-nil, All, Any, mod-lt}
use Rattle.std.proofs.Math.IntN.{negsuc}
use Rattle.std.specs.Int.{IsGcd, int_div_euclid}
use Rattle.std.specs.Int.RustNames.{unsigned_abs}
use Rattle.std.proofs.lemmas.Int.{ints, by_lt_z}
use Rattle.std.proofs.lemmas.Nat.Gcd.{IsGcd-from_zero, IsGcd-from_mod, dvd_trans}
use Rattle.std.proofs.lemmas.List.Elements.{All-nil, All-cons, All-head, All-tail}
use Prim.Native.Nat.{◌∣◌}
use Rattle.av_affine.specs.declared.form.Form.{Form}
use Rattle.av_affine.specs.Numbers.{IsGcdOf}
use Rattle.av_affine.proofs.Gcds.{gcd_none}
use Rattle.av_poly.specs.Normal.{counted, IsConstant, IsNever, IsDivided, AreTightest, AreNormalised, impossible}
use Rattle.av_poly.proofs.Dividing.{none_counted, not_constant}
use Rattle.av_poly.proofs.Tightening.{tight_none, tight_constant, tight_pushed, tight_lowered}

-- ---- common divisors

gcd_within : (n a b : ℕ) → b < n → (g : ℕ) × IsGcd a b g
gcd_within zero a b h = absurd (omega (arith, h))
gcd_within (suc n) a zero h = (a, IsGcd-from_zero a 0 refl)
gcd_within (suc n) a (suc b) h =
    let l : a % suc b < suc b = mod-lt a (omega arith) in
    let r = gcd_within n (suc b) (a % suc b) (omega (arith, l, h)) in
    (r.0, IsGcd-from_mod a (suc b) r.0 r.1)

pub gcd_exists : (xs : List ℤ) → (g : ℕ) × IsGcdOf xs g
gcd_exists [] = (0, gcd_none)
gcd_exists (x ∷ xs) =
    let r = gcd_exists xs in
    let s = gcd_within (suc r.0) (unsigned_abs x) r.0 (omega arith) in (
      s.0,
      record {
        divides = All-cons (λ y. s.0 ∣ unsigned_abs y) x xs s.1.0 (λ k d l. dvd_trans s.0 s.1.1 (r.1.divides k d l));
        greatest = λ d h. s.1.2 d (All-head (λ y. d ∣ unsigned_abs y) x xs h) (r.1.greatest d (All-tail (λ y. d ∣ unsigned_abs y) x xs h));
      },
    )

-- ---- one row

-- a row with coefficients has a divided row
divides_or : (dim : ℕ) (row : Form) → IsConstant dim row ⊎ ((new : Form) × IsDivided dim row new)
divides_or dim row = let r = gcd_exists (counted dim row.coef) in go r.0 r.1
  where
    go : (g : ℕ) → IsGcdOf (counted dim row.coef) g → IsConstant dim row ⊎ ((new : Form) × IsDivided dim row new)
    go zero h = inl (none_counted (counted dim row.coef) h)
    go (suc g) h = inr (
      record { coef = map (λ x. int_div_euclid x (pos (suc g))) (counted dim row.coef); constant = int_div_euclid row.constant (pos (suc g)) },
      record { divisor = suc g; positive = omega arith; gcd = h; coef = refl; constant = refl },
    )

sign : (k : ℤ) → (k <ℤ pos 0) ⊎ (pos 0 ≤ℤ k)
sign (pos n) = inr (omega (arith, ints))
sign (negsuc n) = inl (omega (arith, ints))

-- ---- the place of a row with the same coefficients

pub same_int : (a b : ℤ) → (a ≡ b) ⊎ (a ≢ b)
same_int a b = by_lt_z a b (λ h. inr (λ e. omega (arith, ints, e, h))) (λ h. by_lt_z b a (λ k. inr (λ e. omega (arith, ints, e, k))) (λ k. inl (omega (arith, ints, h, k))))

pub same_list : (xs ys : List ℤ) → (xs ≡ ys) ⊎ (xs ≢ ys)
same_list [] [] = inl refl
same_list [] (y ∷ ys) = inr (λ e. cc)
same_list (x ∷ xs) [] = inr (λ e. cc)
same_list (x ∷ xs) (y ∷ ys) = elim (same_int x y) [
  | inl p ↦ elim (same_list xs ys) [ inl q ↦ inl (ap (λ a. a ∷ xs) p ∙ ap (λ zs. y ∷ zs) q) | inr n ↦ inr (λ e. n (let r : xs ≡ ys = cc in r)) ]
  | inr n ↦ inr (λ e. n (let r : x ≡ y = cc in r))
]

place_or : (coef : List ℤ) (rows : List Form) (d : Form) → ((j : ℕ) × (j < length rows) × ((get_or rows j d).coef ≡ coef)) ⊎ All (λ other. other.coef ≢ coef) rows
place_or coef [] d = inr (All-nil (λ other. other.coef ≢ coef))
place_or coef (row ∷ rows) d = elim (same_list row.coef coef) [
  | inl e ↦ inl (0, omega arith, e)
  | inr n ↦ elim (place_or coef rows d) [
    | inl r ↦ inl (suc r.0, (let l = r.1 in omega (arith, l)), r.2)
    | inr h ↦ inr (All-cons (λ other. other.coef ≢ coef) row rows n h)
  ]
]

-- ---- all rows

one_more : (dim : ℕ) (old new : List Form) (row : Form) → AreTightest dim old new → (more : List Form) × AreTightest dim (old ++ row ∷ []) more
one_more dim old new row h = elim (divides_or dim row) [
  | inl c ↦ (new, tight_constant dim old new row h c)
  | inr (s, is) ↦ elim (place_or s.coef new s) [
    | inl (j, l, e) ↦ (_, tight_lowered dim old new row s (get_or new j s) j h is l refl e)
    | inr n ↦ (_, tight_pushed dim old new row s h is n)
  ]
]

all_more : (dim : ℕ) (old rows new : List Form) → AreTightest dim old new → (more : List Form) × AreTightest dim (old ++ rows) more
all_more dim old [] new h = (new, subst (λ rs. AreTightest dim rs new) (sym (append-nil old)) h)
all_more dim old (row ∷ rows) new h =
    let r = one_more dim old new row h in
    let s = all_more dim (old ++ row ∷ []) rows r.0 r.1 in
    (s.0, subst (λ rs. AreTightest dim rs s.0) (append_assoc old (row ∷ []) rows) s.1)

never_or : (dim : ℕ) (rows : List Form) → Any (IsNever dim) rows ⊎ All (λ row. IsConstant dim row → pos 0 ≤ℤ row.constant) rows
never_or dim [] = inr (All-nil (λ row. IsConstant dim row → pos 0 ≤ℤ row.constant))
never_or dim (row ∷ rows) = elim (never_or dim rows) [
  | inl (k, x, l, e, p) ↦ inl (suc k, x, omega (arith, l), e, p)
  | inr h ↦ elim (sign row.constant) [
    | inr p ↦ inr (All-cons (λ r. IsConstant dim r → pos 0 ≤ℤ r.constant) row rows (λ c. p) h)
    | inl p ↦ elim (divides_or dim row) [
      | inl c ↦ inl (0, row, omega arith, refl, record { no_coefficients = c; negative = p })
      | inr s ↦ inr (All-cons (λ r. IsConstant dim r → pos 0 ≤ℤ r.constant) row rows (λ c. absurd (not_constant dim row s.0 s.1 c)) h)
    ]
  ]
]

pub normal_exists : (dim : ℕ) (rows : List Form) → (new : List Form) × AreNormalised dim rows new
normal_exists dim rows = elim (never_or dim rows) [
  | inl h ↦ (impossible ∷ [], inl (h, refl))
  | inr h ↦ (let r = all_more dim [] rows [] (tight_none dim) in (r.0, inr (h, r.1)))
]
