-- Sums of products, as far as the lists go.
use Rattle.std.proofs.Common.{◌≡◌, ℕ, zero, suc, ◌*◌, ◌<◌, ◌≤◌, List, [], ◌∷◌, length, get_or, take, refl, ◌∙◌, ap, arith, ℤ, pos, ◌+ℤ◌, ◌*ℤ◌}
use Rattle.std.specs.Prelude.{min}
use Rattle.std.specs.Int.RustNames.{unsigned_abs}
use Rattle.std.specs.List.{AllByRecursion}
use Rattle.std.proofs.lemmas.Int.{ints, unsigned_abs-mul}
use Rattle.std.proofs.lemmas.List.Elements.{recursion_from_All}
use Rattle.std.proofs.Math.Nat.{mul-le-mul}
use Rattle.av_affine.specs.Numbers.{dot, AtMost}

-- one more product
pub dot_more : (xs ys : List ℤ) (i : ℕ) (d e : ℤ) → i < length xs → i < length ys → dot (take (suc i) xs) (take (suc i) ys) ≡ dot (take i xs) (take i ys) +ℤ get_or xs i d *ℤ get_or ys i e
dot_more [] ys i d e h k = absurd (omega arith)
dot_more (x ∷ xs) [] i d e h k = absurd (omega arith)
dot_more (x ∷ xs) (y ∷ ys) zero d e h k = omega (arith, ints)
dot_more (x ∷ xs) (y ∷ ys) (suc i) d e h k = omega (arith, ints, dot_more xs ys i d e (omega arith) (omega arith))

-- the absolute value of a product
pub abs_product : (a b : ℤ) (m n : ℕ) → unsigned_abs a ≤ m → unsigned_abs b ≤ n → unsigned_abs (a *ℤ b) ≤ m * n
abs_product a b m n h k = omega (arith, unsigned_abs-mul a b, mul-le-mul h k)

-- all of the second list
pub dot_all : (xs ys : List ℤ) (i : ℕ) {s : ℤ} → length ys ≤ i → length ys ≤ length xs → s ≡ dot (take i xs) (take i ys) → s ≡ dot xs ys
dot_all xs ys i h k e = e ∙ go xs ys i h k
  where
    go : (xs ys : List ℤ) (i : ℕ) → length ys ≤ i → length ys ≤ length xs → dot (take i xs) (take i ys) ≡ dot xs ys
    go [] ys zero h k = refl
    go [] [] (suc i) h k = refl
    go [] (y ∷ ys) (suc i) h k = refl
    go (x ∷ xs) [] zero h k = refl
    go (x ∷ xs) [] (suc i) h k = refl
    go (x ∷ xs) (y ∷ ys) zero h k = absurd (omega arith)
    go (x ∷ xs) (y ∷ ys) (suc i) h k = ap (λ d. x *ℤ y +ℤ d) (go xs ys i (omega arith) (omega arith))

-- the absolute value of a sum of products
pub dot_most : (xs ys : List ℤ) (m n : ℕ) → AtMost m xs → AtMost n ys → unsigned_abs (dot xs ys) ≤ m * n * length ys
dot_most xs ys m n h k = go xs ys m n (recursion_from_All (λ x. unsigned_abs x ≤ m) xs h) (recursion_from_All (λ y. unsigned_abs y ≤ n) ys k)
  where
    go : (xs ys : List ℤ) (m n : ℕ) → AllByRecursion (λ x. unsigned_abs x ≤ m) xs → AllByRecursion (λ y. unsigned_abs y ≤ n) ys → unsigned_abs (dot xs ys) ≤ m * n * length ys
    go [] ys m n h k = omega (arith, ints)
    go (x ∷ xs) [] m n h k = omega (arith, ints)
    go (x ∷ xs) (y ∷ ys) m n h k = let a = abs_product x y m n h.0 k.0 in let b = go xs ys m n h.1 k.1 in omega (arith, ints, a, b)

-- an entry, or 0 past the end
pub entry_most : (limit : ℕ) (xs : List ℤ) (i : ℕ) → AtMost limit xs → unsigned_abs (get_or xs i (pos 0)) ≤ limit
entry_most limit xs i h = go xs i (recursion_from_All (λ x. unsigned_abs x ≤ limit) xs h)
  where
    go : (xs : List ℤ) (i : ℕ) → AllByRecursion (λ x. unsigned_abs x ≤ limit) xs → unsigned_abs (get_or xs i (pos 0)) ≤ limit
    go [] i h = omega arith
    go (x ∷ xs) zero h = h.0
    go (x ∷ xs) (suc i) h = go xs i h.1

-- what lies past the end of one of them does not count
pub dot_whole : (xs ys : List ℤ) (k : ℕ) → min (length xs) (length ys) ≤ k → dot (take k xs) (take k ys) ≡ dot xs ys
dot_whole [] ys zero l = refl
dot_whole [] ys (suc k) l = refl
dot_whole (x ∷ xs) [] zero l = refl
dot_whole (x ∷ xs) [] (suc k) l = refl
dot_whole (x ∷ xs) (y ∷ ys) zero l = absurd (omega (arith, l))
dot_whole (x ∷ xs) (y ∷ ys) (suc k) l = ap (λ n. x *ℤ y +ℤ n) (dot_whole xs ys k (omega (arith, l)))
