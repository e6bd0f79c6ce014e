-- Residues: of numbers so many moduli later, of numbers less than a modulus apart, and in a window of less than a modulus, where they rise
-- with the numbers but for one step back, so that those past that step come first.
use Rattle.std.proofs.Common.{◌≡◌, ℕ, suc, ◌+◌, ◌*◌, ◌/◌, ◌%◌, ◌<◌, ◌≤◌, ◌⊎◌, inl, inr, ap, ◌∙◌, arith, mul_comm, mul-suc, mul-le-mul_left, mod-lt}
use Rattle.std.proofs.Math.Nat.{mod-add-div, add-mul-mod_self_left}
use Rattle.std.proofs.lemmas.Bool.{cases_lt}

-- so many moduli later the residue is the same
pub later_residue : (c b m : ℕ) → (c + b * m) % m ≡ c % m
later_residue c b m = ap (λ k. (c + k) % m) (mul_comm b m) ∙ add-mul-mod_self_left c m b

-- two numbers that are less than the modulus apart are equal where their residues are
pub near : (c d m : ℕ) → c ≤ d → d < c + m → c % m ≡ d % m → c ≡ d
near c d m low high same = by_times (c / m) (d / m) (mod-add-div c m) (mod-add-div d m)
  where
    by_times : (j k : ℕ) → c % m + m * j ≡ c → d % m + m * k ≡ d → c ≡ d
    by_times j k at of = elim (cases_lt j k) [
      | inl less ↦ (let more = mul-le-mul_left m less in absurd (omega (arith, high, same, at, of, more, mul-suc m j)))
      | inr le ↦ (let more = mul-le-mul_left m le in omega (arith, low, same, at, of, more))
    ]

-- ---- windows

-- a number of the window is as far from its beginning as its residue is, or it is past the step back
pub in_window : (a c m : ℕ) → 0 < m → a ≤ c → c < a + m → (c % m + a ≡ a % m + c) ⊎ (c % m + m + a ≡ a % m + c)
in_window a c m some low high = by_times (a / m) (c / m) (mod-add-div a m) (mod-add-div c m) (mod-lt a some) (mod-lt c some)
  where
    by_times : (i j : ℕ) → a % m + m * i ≡ a → c % m + m * j ≡ c → a % m < m → c % m < m → (c % m + a ≡ a % m + c) ⊎ (c % m + m + a ≡ a % m + c)
    by_times i j at of small few = elim (cases_lt i j) [
      | inl less ↦ elim (cases_lt (suc i) j) [
        | inl more ↦ (let two = mul-le-mul_left m more in absurd (omega (arith, high, at, of, small, two, mul-suc m (suc i), mul-suc m i)))
        | inr le ↦ (let one = mul-le-mul_left m less in let most = mul-le-mul_left m le in inr (omega (arith, at, of, one, most, mul-suc m i)))
      ]
      | inr le ↦ elim (cases_lt j i) [
        | inl more ↦ (let one = mul-le-mul_left m more in absurd (omega (arith, low, at, of, few, one, mul-suc m j)))
        | inr ge ↦ (let up = mul-le-mul_left m le in let down = mul-le-mul_left m ge in inl (omega (arith, at, of, up, down)))
      ]
    ]

-- two numbers of the window, before the step back, around it, and past it
pub two_in_window : (a c d m : ℕ) → 0 < m → a ≤ c → c < d → d < a + m
    → ((a % m ≤ c % m) × (c % m < d % m)) ⊎ ((d % m < a % m) × (a % m ≤ c % m)) ⊎ ((c % m < d % m) × (d % m < a % m))
two_in_window a c d m some low less high = elim (in_window a c m some low (omega (arith, less, high))) [
  | inl p ↦ elim (in_window a d m some (omega (arith, low, less)) high) [
    | inl q ↦ inl (omega (arith, p, low), omega (arith, p, q, less))
    | inr q ↦ inr (inl (omega (arith, q, high), omega (arith, p, low)))
  ]
  | inr p ↦ elim (in_window a d m some (omega (arith, low, less)) high) [
    | inl q ↦ (let few = mod-lt d some in absurd (omega (arith, p, q, less, few)))
    | inr q ↦ inr (inr (omega (arith, p, q, less), omega (arith, q, high)))
  ]
]
