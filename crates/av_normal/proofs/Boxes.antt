-- The number of points of a box of four entries, and greatest absolute values.
use Rattle.std.proofs.Common.{◌≡◌, ◌≤◌, ℕ, ℤ, pos, ◌+ℤ◌, ◌-ℤ◌, ◌*ℤ◌, List, [], ◌∷◌, ◌++◌, length, map, max, get_or, refl, sym, ap, ap₂, arith, ◌∙◌}
use Rattle.std.specs.Prelude.{fold}
use Rattle.std.specs.List.{AllByRecursion}
use Rattle.std.specs.Int.RustNames.{unsigned_abs}
use Rattle.std.proofs.lemmas.Int.{ints}
use Rattle.std.proofs.lemmas.List.Elements.{All-from_recursion}
use Rattle.av_affine.specs.Numbers.{AtMost, greatest}
use Rattle.av_affine.proofs.Ring.{times_times}
use Rattle.av_flat.specs.Sets.{box_size}

pub four_is : (xs : List ℤ) → length xs ≡ 4 → xs ≡ get_or xs 0 (pos 0) ∷ get_or xs 1 (pos 0) ∷ get_or xs 2 (pos 0) ∷ get_or xs 3 (pos 0) ∷ []
four_is [] e = absurd (omega (arith, e))
four_is (a ∷ []) e = absurd (omega (arith, e))
four_is (a ∷ b ∷ []) e = absurd (omega (arith, e))
four_is (a ∷ b ∷ c ∷ []) e = absurd (omega (arith, e))
four_is (a ∷ b ∷ c ∷ d ∷ []) e = refl
four_is (a ∷ b ∷ c ∷ d ∷ f ∷ xs) e = absurd (omega (arith, e))

one : (w : ℤ) → w ≡ w *ℤ pos 1
one w = omega (arith, ints)

times_four : (x y z w : ℤ) → (x *ℤ y) *ℤ (z *ℤ w) ≡ x *ℤ (y *ℤ (z *ℤ (w *ℤ pos 1)))
times_four x y z w = times_times x y (z *ℤ w) ∙ ap (λ k. x *ℤ (y *ℤ (z *ℤ k))) (one w)

abbrev pub width_at : List ℤ → List ℤ → ℕ → ℤ
width_at low high k = get_or high k (pos 0) -ℤ get_or low k (pos 0) +ℤ pos 1

pub box_of : (low high : List ℤ) → length low ≡ 4 → length high ≡ 4 → (width_at low high 0 *ℤ width_at low high 1) *ℤ (width_at low high 2 *ℤ width_at low high 3) ≡ box_size low high
box_of low high p q =
    times_four (width_at low high 0) (width_at low high 1) (width_at low high 2) (width_at low high 3) ∙ ap₂ box_size (sym (four_is low p)) (sym (four_is high q))

-- ---- greatest absolute values

fold_from : (n : ℕ) (xs : List ℤ) → fold max n (map unsigned_abs xs) ≡ max n (fold max 0 (map unsigned_abs xs))
fold_from n [] = omega arith
fold_from n (x ∷ xs) = let a = fold_from (max n (unsigned_abs x)) xs in let b = fold_from (max 0 (unsigned_abs x)) xs in omega (arith, a, b)

pub greatest_cons : (x : ℤ) (xs : List ℤ) → greatest (x ∷ xs) ≡ max (unsigned_abs x) (greatest xs)
greatest_cons x xs = let b = fold_from (max 0 (unsigned_abs x)) xs in omega (arith, b)

pub greatest_append : (xs ys : List ℤ) → greatest (xs ++ ys) ≡ max (greatest xs) (greatest ys)
greatest_append [] ys = omega arith
greatest_append (x ∷ xs) ys =
    let a = fold_from (max 0 (unsigned_abs x)) (xs ++ ys) in
    let b = fold_from (max 0 (unsigned_abs x)) xs in
    let r = greatest_append xs ys in
    omega (arith, a, b, r)

pub most_at : (limit : ℕ) (xs : List ℤ) → greatest xs ≤ limit → AtMost limit xs
most_at limit xs h = All-from_recursion (λ x. unsigned_abs x ≤ limit) xs (go xs h)
  where
    go : (xs : List ℤ) → greatest xs ≤ limit → AllByRecursion (λ x. unsigned_abs x ≤ limit) xs
    go [] h = tt
    go (x ∷ xs) h = let a = fold_from (max 0 (unsigned_abs x)) xs in (omega (arith, a, h), go xs (omega (arith, a, h)))
