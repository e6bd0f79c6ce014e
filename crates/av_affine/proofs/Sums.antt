-- Sums of a function over the numbers below n, and the numbers other than one.
use Rattle.std.proofs.Common.{◌≡◌, ℕ, zero, suc, ◌<◌, ◌≤◌, refl, ap, arith, ℤ, pos, ◌+ℤ◌, ◌*ℤ◌, ◌⊎◌, inl, inr, ◌≢◌}
use Rattle.std.proofs.lemmas.Int.{ints}
use Rattle.av_affine.specs.Cells.{delta, skip}

-- the sum of the values below n
abbrev pub total : ℕ → (ℕ → ℤ) → ℤ
total zero f = pos 0
total (suc n) f = f 0 +ℤ total n (λ k. f (suc k))

pub total_same : (n : ℕ) (f g : ℕ → ℤ) → ((k : ℕ) → k < n → f k ≡ g k) → total n f ≡ total n g
total_same zero f g h = refl
total_same (suc n) f g h = rw (h 0 (omega arith), total_same n (λ k. f (suc k)) (λ k. g (suc k)) (λ k l. h (suc k) (omega arith))) refl

pub total_none : (n : ℕ) (f : ℕ → ℤ) → ((k : ℕ) → k < n → f k ≡ pos 0) → total n f ≡ pos 0
total_none zero f h = refl
total_none (suc n) f h = rw (h 0 (omega arith), total_none n (λ k. f (suc k)) (λ k l. h (suc k) (omega arith))) refl

-- one value apart from the others
pub total_apart : (n l : ℕ) (f : ℕ → ℤ) → l ≤ n → total (suc n) f ≡ f l +ℤ total n (λ k. f (skip l k))
total_apart n zero f h = refl
total_apart zero (suc l) f h = absurd (omega arith)
total_apart (suc n) (suc l) f h = let e = total_apart n l (λ k. f (suc k)) (omega arith) in omega (arith, ints, e)

-- ---- the numbers other than one

pub delta_same : (l : ℕ) → delta l l ≡ pos 1
delta_same zero = refl
delta_same (suc l) = delta_same l

pub delta_sym : (i j : ℕ) → delta i j ≡ delta j i
delta_sym zero zero = refl
delta_sym zero (suc j) = refl
delta_sym (suc i) zero = refl
delta_sym (suc i) (suc j) = delta_sym i j

pub delta_skipped : (l k : ℕ) → delta (skip l k) l ≡ pos 0
delta_skipped zero k = refl
delta_skipped (suc l) zero = refl
delta_skipped (suc l) (suc k) = delta_skipped l k

pub delta_skip : (l i j : ℕ) → delta (skip l i) (skip l j) ≡ delta i j
delta_skip zero i j = refl
delta_skip (suc l) zero zero = refl
delta_skip (suc l) zero (suc j) = refl
delta_skip (suc l) (suc i) zero = refl
delta_skip (suc l) (suc i) (suc j) = delta_skip l i j

-- each number is the one left out, or one of the others
pub skip_all : (n l i : ℕ) → i < suc n → l ≤ n → (i ≡ l) ⊎ ((k : ℕ) × (k < n) × (i ≡ skip l k))
skip_all n zero zero h p = inl refl
skip_all n zero (suc i) h p = inr (i, omega arith, refl)
skip_all zero (suc l) i h p = absurd (omega arith)
skip_all (suc n) (suc l) zero h p = inr (0, omega arith, refl)
skip_all (suc n) (suc l) (suc i) h p = elim (skip_all n l i (omega arith) (omega arith)) [ inl e ↦ inl (ap suc e) | inr w ↦ inr (suc w.0, omega (arith, w.1), ap suc w.2) ]

pub skip_within : (n l k : ℕ) → k < n → l ≤ n → skip l k < suc n
skip_within n zero k h p = omega arith
skip_within n (suc l) zero h p = omega arith
skip_within zero (suc l) (suc k) h p = absurd (omega arith)
skip_within (suc n) (suc l) (suc k) h p = let i = skip_within n l k (omega arith) (omega arith) in omega (arith, i)

-- a sum with deltas is one value
pub total_delta : (n t : ℕ) (f : ℕ → ℤ) → t < n → total n (λ k. f k *ℤ delta t k) ≡ f t
total_delta zero t f h = absurd (omega arith)
total_delta (suc n) zero f h = let e = total_none n (λ k. f (suc k) *ℤ pos 0) (λ k l. omega (arith, ints)) in omega (arith, ints, e)
total_delta (suc n) (suc t) f h = let e = total_delta n t (λ k. f (suc k)) (omega arith) in omega (arith, ints, e)

pub total_delta_left : (n t : ℕ) (f : ℕ → ℤ) → t < n → total n (λ k. delta t k *ℤ f k) ≡ f t
total_delta_left zero t f h = absurd (omega arith)
total_delta_left (suc n) zero f h = let e = total_none n (λ k. pos 0 *ℤ f (suc k)) (λ k l. omega (arith, ints)) in omega (arith, ints, e)
total_delta_left (suc n) (suc t) f h = let e = total_delta_left n t (λ k. f (suc k)) (omega arith) in omega (arith, ints, e)

pub delta_apart : (i j : ℕ) → i ≢ j → delta i j ≡ pos 0
delta_apart zero zero h = absurd (h refl)
delta_apart zero (suc j) h = refl
delta_apart (suc i) zero h = refl
delta_apart (suc i) (suc j) h = delta_apart i j (λ e. h (ap suc e))

pub skip_before : (l k : ℕ) → k < l → skip l k ≡ k
skip_before zero k h = absurd (omega arith)
skip_before (suc l) zero h = refl
skip_before (suc l) (suc k) h = ap suc (skip_before l k (omega arith))

pub skip_after : (l k : ℕ) → l ≤ k → skip l k ≡ suc k
skip_after zero k h = refl
skip_after (suc l) zero h = absurd (omega arith)
skip_after (suc l) (suc k) h = ap suc (skip_after l k (omega arith))

pub skip_apart : (l k : ℕ) → skip l k ≢ l
skip_apart zero k e = absurd (omega (arith, e))
skip_apart (suc l) zero e = absurd (omega (arith, e))
skip_apart (suc l) (suc k) e = skip_apart l k (omega (arith, e))
