-- The quotient of a difference as numbers of 64 bits have it.
use Rattle.std.proofs.Common.{◌≡◌, ℕ, ◌≤◌, ◌^◌, ℤ, pos, ◌-ℤ◌, ◌*ℤ◌, ◌<ℤ◌, ◌≤ℤ◌, refl, sym, ap, ap₂, ◌∙◌, arith, FitsSigned, to_z, of_z, w64}
use Rattle.std.specs.Prelude.{unsigned_abs}
use Rattle.std.specs.Int.{int_div_euclid}
use Rattle.std.proofs.lemmas.Int.{ints}
use Rattle.std.proofs.Math.IntN.{*ℤ_comm}
use Rattle.av_affine.proofs.Exact.{div_bounds}
use Rattle.av_stream.proofs.Images.{as_narrow}
use Rattle.av_stream.proofs.StandingPoints.{factor_small, quotient_is}

-- as it is kept in 64 bits
abbrev pub kept : ℤ → ℤ
kept x = to_z w64 (of_z w64 x)

module _ (n : ℕ) (o g : ℤ) (few : n ≤ 4096) (near : unsigned_abs o ≤ 2 ^ 17) (positive : pos 0 <ℤ g) (small : g ≤ℤ pos 4) where
  abbrev since : ℤ
  since = pos n -ℤ o

  abbrev quotient : ℤ
  quotient = int_div_euclid since g

  since_small : unsigned_abs since ≤ 2 ^ 18
  since_small = omega (arith, ints, few, near)

  pub kept_divisor : kept g ≡ g
  kept_divisor = as_narrow g (omega (arith, ints, positive, small))

  pub kept_since : (r : ℤ) → r ≡ pos n → kept (kept r -ℤ kept o) ≡ since
  kept_since r e =
      ap₂ (λ a b. kept (a -ℤ b)) (ap kept e ∙ as_narrow (pos n) (omega (arith, ints, few))) (as_narrow o (omega (arith, ints, near))) ∙ as_narrow since (omega (arith, since_small))

  product_small : unsigned_abs (quotient *ℤ g) ≤ 2 ^ 19
  product_small = let b = div_bounds since g positive in omega (arith, ints, b.0, b.1, since_small, small)

  quotient_small : unsigned_abs quotient ≤ 2 ^ 19
  quotient_small = factor_small quotient g (quotient *ℤ g) (2 ^ 19) positive refl product_small

  pub kept_quotient : (r q : ℤ) → r ≡ pos n → q ≡ int_div_euclid (kept (kept r -ℤ kept o)) (kept g) → kept q ≡ quotient
  kept_quotient r q e is = ap kept (is ∙ ap₂ int_div_euclid (kept_since r e) kept_divisor) ∙ as_narrow quotient (omega (arith, quotient_small))

  pub product_fits : (r q : ℤ) → r ≡ pos n → q ≡ int_div_euclid (kept (kept r -ℤ kept o)) (kept g) → FitsSigned w64 (kept q *ℤ kept g)
  product_fits r q e is =
      let same : kept q *ℤ kept g ≡ quotient *ℤ g = ap₂ (λ a b. a *ℤ b) (kept_quotient r q e is) kept_divisor in
      omega (arith, ints, same, product_small)

  -- the kept numbers are equal where the numbers are
  pub product_is : (r q : ℤ) → r ≡ pos n → q ≡ int_div_euclid (kept (kept r -ℤ kept o)) (kept g) → of_z w64 (kept q *ℤ kept g) ≡ of_z w64 (kept r -ℤ kept o) → kept q *ℤ g ≡ since
  product_is r q e is same =
      let left : kept q *ℤ kept g ≡ quotient *ℤ g = ap₂ (λ a b. a *ℤ b) (kept_quotient r q e is) kept_divisor in
      ap (λ a. a *ℤ g) (kept_quotient r q e is) ∙ sym (as_narrow (quotient *ℤ g) (omega (arith, product_small))) ∙ ap kept (sym left) ∙ ap (to_z w64) same ∙ kept_since r e

  pub no_product : (r q : ℤ) → r ≡ pos n → q ≡ int_div_euclid (kept (kept r -ℤ kept o)) (kept g) → (of_z w64 (kept q *ℤ kept g) ≡ of_z w64 (kept r -ℤ kept o) → ⊥) → (m : ℤ) → m *ℤ g ≡ since → ⊥
  no_product r q e is other m exact =
      let is_m : quotient ≡ m = quotient_is since g m positive (sym exact ∙ *ℤ_comm m g) in
      let left : kept q *ℤ kept g ≡ since = ap₂ (λ a b. a *ℤ b) (kept_quotient r q e is ∙ is_m) kept_divisor ∙ exact in
      let right : kept r -ℤ kept o ≡ since = ap₂ (λ a b. a -ℤ b) (ap kept e ∙ as_narrow (pos n) (omega (arith, ints, few))) (as_narrow o (omega (arith, ints, near))) in
      other (ap (of_z w64) (left ∙ sym right))

-- the cycle is the offset where they are kept alike
pub cycle_is : (n : ℕ) (r o : ℤ) → r ≡ pos n → unsigned_abs o ≤ 2 ^ 17 → n ≤ 4096 → of_z w64 r ≡ of_z w64 o → pos n ≡ o
cycle_is n r o e near few same =
    let left : kept r ≡ pos n = ap kept e ∙ as_narrow (pos n) (omega (arith, ints, few)) in
    let right : kept o ≡ o = as_narrow o (omega (arith, ints, near)) in
    sym left ∙ ap (to_z w64) same ∙ right
