-- Ranks of coordinates: they order coordinates as points are ordered.
use Rattle.std.proofs.Common.{◌≡◌, ℕ, zero, suc, ◌+◌, ◌*◌, ◌^◌, ◌<◌, ◌≤◌, ℤ, pos, ◌+ℤ◌, ◌<ℤ◌, ◌⊎◌, inl, inr, List, [], ◌∷◌, length, refl, ap₂, arith, add-one}
use Rattle.std.specs.Prelude.{unsigned_abs}
use Rattle.std.proofs.lemmas.Int.{ints}
use Rattle.std.proofs.lemmas.Bool.{cases_lt}
use Rattle.std.proofs.Math.Nat.{pow-suc}
use Rattle.std.proofs.lemmas.List.Elements.{recursion_from_All}
use Rattle.std.specs.List.{AllByRecursion}
use Rattle.av_affine.specs.Numbers.{AtMost}
use Rattle.av_tree.specs.Points.{Point}
use Rattle.av_flat.specs.Order.{IsBefore}
use Rattle.av_space.specs.inner.Laying.{rank_from}

abbrev IsDigit : ℤ → Type 0
IsDigit x = unsigned_abs x ≤ 16380

abbrev AreDigits : List ℤ → Type 0
AreDigits xs = AllByRecursion IsDigit xs

-- what equal ranks say, digit by digit
same_digits : (r q : ℕ) (xs ys : List ℤ) → length xs ≡ length ys → AreDigits xs → AreDigits ys → rank_from r xs ≡ rank_from q ys → (r ≡ q) × (xs ≡ ys)
same_digits r q [] [] l a b e = (e, refl)
same_digits r q [] (y ∷ ys) l a b e = absurd (omega (arith, l))
same_digits r q (x ∷ xs) [] l a b e = absurd (omega (arith, l))
same_digits r q (x ∷ xs) (y ∷ ys) l a b e =
    let h = same_digits (r * 65536 + unsigned_abs (x +ℤ pos 32768)) (q * 65536 + unsigned_abs (y +ℤ pos 32768)) xs ys (omega (arith, l)) a.1 b.1 e in
    let f = h.0 in
    let m = a.0 in
    let n = b.0 in
    let heads : x ≡ y = omega (arith, ints, f, m, n) in
    (omega (arith, ints, f, m, n), ap₂ (λ (u : ℤ) (us : List ℤ). u ∷ us) heads h.1)

-- and what a lesser rank says
lesser_digits : (r q : ℕ) (xs ys : List ℤ) → length xs ≡ length ys → AreDigits xs → AreDigits ys → rank_from r xs < rank_from q ys → (r < q) ⊎ ((r ≡ q) × IsBefore xs ys)
lesser_digits r q [] [] l a b h = inl h
lesser_digits r q [] (y ∷ ys) l a b h = absurd (omega (arith, l))
lesser_digits r q (x ∷ xs) [] l a b h = absurd (omega (arith, l))
lesser_digits r q (x ∷ xs) (y ∷ ys) l a b h =
    let m = a.0 in
    let n = b.0 in
    elim (lesser_digits (r * 65536 + unsigned_abs (x +ℤ pos 32768)) (q * 65536 + unsigned_abs (y +ℤ pos 32768)) xs ys (omega (arith, l)) a.1 b.1 h) [
      | inl f ↦ first r q x y xs ys m n f
      | inr k ↦ (let f = k.0 in inr (omega (arith, ints, f, m, n), inr (omega (arith, ints, f, m, n), k.1)))
    ]
  where
    above : (r q : ℕ) (x y : ℤ) (xs ys : List ℤ) → IsDigit x → IsDigit y → q ≤ r → r * 65536 + unsigned_abs (x +ℤ pos 32768) < q * 65536 + unsigned_abs (y +ℤ pos 32768) → (r ≡ q) × (x <ℤ y)
    above r q x y xs ys m n le f = (omega (arith, ints, f, m, n, le), omega (arith, ints, f, m, n, le))

    first : (r q : ℕ) (x y : ℤ) (xs ys : List ℤ) → IsDigit x → IsDigit y → r * 65536 + unsigned_abs (x +ℤ pos 32768) < q * 65536 + unsigned_abs (y +ℤ pos 32768) → (r < q) ⊎ ((r ≡ q) × IsBefore (x ∷ xs) (y ∷ ys))
    first r q x y xs ys m n f = elim (cases_lt r q) [
      | inl lt ↦ inl lt
      | inr le ↦ (let k = above r q x y xs ys m n le f in inr (k.0, inl k.1))
    ]

pub same_rank : (xs ys : Point) → length xs ≡ length ys → AtMost 16380 xs → AtMost 16380 ys → rank_from 0 xs ≡ rank_from 0 ys → xs ≡ ys
same_rank xs ys l a b e = (same_digits 0 0 xs ys l (recursion_from_All IsDigit xs a) (recursion_from_All IsDigit ys b) e).1

pub lesser_rank : (xs ys : Point) → length xs ≡ length ys → AtMost 16380 xs → AtMost 16380 ys → rank_from 0 xs < rank_from 0 ys → IsBefore xs ys
lesser_rank xs ys l a b h = elim (lesser_digits 0 0 xs ys l (recursion_from_All IsDigit xs a) (recursion_from_All IsDigit ys b) h) [
  | inl f ↦ absurd (omega (arith, f))
  | inr k ↦ k.1
]

-- ---- the numbers that come up

pub wide : (k : ℕ) → k ≤ 4 → 65536 ^ k ≤ 2 ^ 64
wide zero l = omega arith
wide (suc zero) l = omega arith
wide (suc (suc zero)) l = omega arith
wide (suc (suc (suc zero))) l = omega arith
wide (suc (suc (suc (suc zero)))) l = omega arith
wide (suc (suc (suc (suc (suc k))))) l = absurd (omega (arith, l))

pub narrow : (k : ℕ) → k < 4 → 65536 ^ k ≤ 2 ^ 48
narrow zero l = omega arith
narrow (suc zero) l = omega arith
narrow (suc (suc zero)) l = omega arith
narrow (suc (suc (suc zero))) l = omega arith
narrow (suc (suc (suc (suc k)))) l = absurd (omega (arith, l))

pub power_more : (k : ℕ) → 65536 ^ (k + 1) ≡ 65536 ^ k * 65536
power_more k = rw add-one (pow-suc 65536 k)
