-- Lists of whole numbers: sums of products, absolute values, common divisors (textbook).
use Rattle.std.specs.Prelude.{ℕ, ℤ, pos, ◌+ℤ◌, ◌*ℤ◌, ◌≤◌, List, [], ◌∷◌, map, max, fold, All, unsigned_abs}
use Prim.Native.Nat.{◌∣◌}

-- the sum of the products of the entries, as far as both lists go
abbrev pub dot : List ℤ → List ℤ → ℤ
dot [] ys = pos 0
dot (x ∷ xs) [] = pos 0
dot (x ∷ xs) (y ∷ ys) = x *ℤ y +ℤ dot xs ys

-- no number is above the limit in absolute value
abbrev pub AtMost : ℕ → List ℤ → Type 0
AtMost limit xs = All (λ x. unsigned_abs x ≤ limit) xs

-- the greatest absolute value, and 0 where there is no number
abbrev pub greatest : List ℤ → ℕ
greatest xs = fold max 0 (map unsigned_abs xs)

-- g is the greatest common divisor of the numbers, and 0 where all are 0
pub record IsGcdOf (xs : List ℤ) (g : ℕ) : Type 0 where
  pub divides : All (λ x. g ∣ unsigned_abs x) xs
  pub greatest : (d : ℕ) → All (λ x. d ∣ unsigned_abs x) xs → d ∣ g

-- the values of a function at 0, 1, 2 and 3
abbrev pub four : {A : Type 0} → (ℕ → A) → List A
four f = f 0 ∷ f 1 ∷ f 2 ∷ f 3 ∷ []
