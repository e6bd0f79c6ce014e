-- The residue of the next number.
use Rattle.std.proofs.Common.{◌≡◌, ℕ, suc, ◌+◌, ◌-◌, ◌*◌, ◌/◌, ◌%◌, ◌<◌, ◌≤◌, ◌⊎◌, inl, inr, Bool, true, false, if◌then◌else◌, refl, sym, ap, ◌∙◌, arith, mul-suc, mod-lt, mod-eq_of_lt}
use Rattle.std.specs.Prelude.{nat_eq}
use Rattle.std.proofs.Math.Nat.{mod-add-div, add-mul-mod_self_left}
use Rattle.std.proofs.lemmas.Bool.{cases_lt}
use Rattle.av_base.proofs.Truths.{same_truth}

both_tests : true ≡ false → ⊥
both_tests f = absurd cc

equal : (i j : ℕ) → nat_eq i j ≡ true → i ≡ j
equal i j h = grind arith

equal_test : (i j : ℕ) → i ≡ j → nat_eq i j ≡ true
equal_test i j h = grind arith

differ : (i j : ℕ) → nat_eq i j ≡ false → (i < j) ⊎ (j < i)
differ i j e = elim (cases_lt i j) [
  | inl less ↦ inl less
  | inr le ↦ elim (cases_lt j i) [
    | inl more ↦ inr more
    | inr ge ↦ absurd (both_tests (sym (equal_test i j (omega (arith, le, ge))) ∙ e))
  ]
]

-- the number after a residue, which is 0 after the last one, is the residue of the number after
pub next_residue : (c m : ℕ) → 0 < m → m ≤ 4096 → (if nat_eq (suc (c % m)) m then 0 else (c % m + 1) % 4096) ≡ (c + 1) % m
next_residue c m some few = by_test (nat_eq (suc (c % m)) m) refl
  where
    by_test : (b : Bool) → nat_eq (suc (c % m)) m ≡ b → (if b then 0 else (c % m + 1) % 4096) ≡ (c + 1) % m
    by_test true e =
        let whole = mod-add-div c m in
        let last : suc (c % m) ≡ m = equal (suc (c % m)) m e in
        let next : c + 1 ≡ 0 + m * suc (c / m) = omega (arith, whole, last, mul-suc m (c / m)) in
        sym (ap (λ k. k % m) next ∙ add-mul-mod_self_left 0 m (suc (c / m)) ∙ mod-eq_of_lt some)
    by_test false e =
        let whole = mod-add-div c m in
        let small = mod-lt c some in
        let within : c % m + 1 < m = elim (differ (suc (c % m)) m e) [
          | inl less ↦ omega (arith, less)
          | inr more ↦ absurd (omega (arith, more, small))
        ] in
        let next : c + 1 ≡ (c % m + 1) + m * (c / m) = omega (arith, whole) in
        mod-eq_of_lt (omega (arith, within, few)) ∙ sym (ap (λ k. k % m) next ∙ add-mul-mod_self_left (c % m + 1) m (c / m) ∙ mod-eq_of_lt within)

-- a number is the last one where the next is the modulus
pub last_test : (a m : ℕ) → 0 < m → nat_eq a (m - 1) ≡ nat_eq (suc a) m
last_test a m some = same_truth (nat_eq a (m - 1)) (nat_eq (suc a) m)
    (λ e. let h = equal a (m - 1) e in equal_test (suc a) m (omega (arith, h, some)))
    (λ e. let h = equal (suc a) m e in equal_test a (m - 1) (omega (arith, h)))

-- with 12 bits the sum begins again by itself
pub next_of_all : (c : ℕ) → (c % 4096 + 1) % 4096 ≡ (c + 1) % 4096
next_of_all c = by_test (nat_eq (suc (c % 4096)) 4096) refl
  where
    by_test : (b : Bool) → nat_eq (suc (c % 4096)) 4096 ≡ b → (c % 4096 + 1) % 4096 ≡ (c + 1) % 4096
    by_test true e =
        let last : suc (c % 4096) ≡ 4096 = equal (suc (c % 4096)) 4096 e in
        let whole : c % 4096 + 1 ≡ 4096 = omega (arith, last) in
        let zero_there : (c % 4096 + 1) % 4096 ≡ 0 = ap (λ k. k % 4096) whole in
        let next : 0 ≡ (c + 1) % 4096 = rw e at (next_residue c 4096 (omega arith) (omega arith)) in
        zero_there ∙ next
    by_test false e = rw e at (next_residue c 4096 (omega arith) (omega arith))
