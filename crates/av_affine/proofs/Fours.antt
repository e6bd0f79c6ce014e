-- A list of four entries, one by one.
use Rattle.std.proofs.Common.{◌≡◌, ℤ, pos, List, [], ◌∷◌, length, get_or, map, refl, arith}

pub four : (f : ℤ → ℤ) (r : List ℤ) (a b c d : ℤ) → length r ≡ 4 → a ≡ f (get_or r 0 (pos 0)) → b ≡ f (get_or r 1 (pos 0)) → c ≡ f (get_or r 2 (pos 0)) → d ≡ f (get_or r 3 (pos 0)) → a ∷ b ∷ c ∷ d ∷ [] ≡ map f r
four f [] a b c d e h i j k = absurd (omega arith)
four f (x ∷ []) a b c d e h i j k = absurd (omega arith)
four f (x ∷ y ∷ []) a b c d e h i j k = absurd (omega arith)
four f (x ∷ y ∷ z ∷ []) a b c d e h i j k = absurd (omega arith)
four f (x ∷ y ∷ z ∷ w ∷ []) a b c d e h i j k = rw (h, i, j, k) refl
four f (x ∷ y ∷ z ∷ w ∷ v ∷ r) a b c d e h i j k = absurd (omega arith)
