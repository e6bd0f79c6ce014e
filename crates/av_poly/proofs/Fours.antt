-- The coefficients that count, one by one.
use Rattle.std.proofs.Common.{◌≡◌, ℕ, zero, suc, ℤ, pos, List, [], ◌∷◌, length, get_or, refl, arith, nat_lt, if◌then◌else◌}
use Rattle.std.proofs.lemmas.Bool.Decides.{nat_tests}
use Rattle.av_poly.specs.Normal.{counted}

-- the coefficient at a place, or 0 where it does not count
abbrev pub counted_or : ℕ → List ℤ → ℕ → ℤ
counted_or n r index = if nat_lt index n then get_or r index (pos 0) else pos 0

pub four_counted : (n : ℕ) (r : List ℤ) (a b c d : ℤ) → length r ≡ 4 → a ≡ counted_or n r 0 → b ≡ counted_or n r 1 → c ≡ counted_or n r 2 → d ≡ counted_or n r 3 → a ∷ b ∷ c ∷ d ∷ [] ≡ counted n r
four_counted n [] a b c d e h i j k = absurd (omega arith)
four_counted n (x ∷ []) a b c d e h i j k = absurd (omega arith)
four_counted n (x ∷ y ∷ []) a b c d e h i j k = absurd (omega arith)
four_counted n (x ∷ y ∷ z ∷ []) a b c d e h i j k = absurd (omega arith)
four_counted zero (x ∷ y ∷ z ∷ w ∷ []) a b c d e h i j k = rw (h, i, j, k) refl
four_counted (suc zero) (x ∷ y ∷ z ∷ w ∷ []) a b c d e h i j k = rw (h, i, j, k) refl
four_counted (suc (suc zero)) (x ∷ y ∷ z ∷ w ∷ []) a b c d e h i j k = rw (h, i, j, k) refl
four_counted (suc (suc (suc zero))) (x ∷ y ∷ z ∷ w ∷ []) a b c d e h i j k = rw (h, i, j, k) refl
four_counted (suc (suc (suc (suc n)))) (x ∷ y ∷ z ∷ w ∷ []) a b c d e h i j k = grind (arith, nat_tests)
four_counted n (x ∷ y ∷ z ∷ w ∷ v ∷ r) a b c d e h i j k = absurd (omega arith)
