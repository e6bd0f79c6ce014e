-- Completed matrices meet the rule of completion, and have whole inverses with small entries.
use Rattle.std.proofs.Common.{◌≡◌, ℕ, zero, suc, ◌<◌, ◌≤◌, refl, arith, lit≤, List, [], ◌∷◌, length, map, ℤ, pos, ◌*ℤ◌, neg_ℤ, ◌⊎◌, inl, inr, ◌&&◌, ◌||◌, Bool, true, false, nat_eq, nat_lt, if◌then◌else◌}
use Rattle.std.proofs.Math.IntN.{negsuc}
use Rattle.std.specs.Int.{int_signum}
use Rattle.std.specs.Int.RustNames.{unsigned_abs}
use Rattle.std.specs.List.{All}
use Rattle.std.proofs.lemmas.Int.{ints}
use Rattle.std.proofs.lemmas.List.Elements.{All-from_recursion}
use Rattle.av_affine.specs.declared.pivot.Pivot.{Pivot}
use Rattle.av_affine.specs.declared.pivot.Pivot.TheVariants.{One, Two}
use Rattle.av_affine.specs.Numbers.{AtMost, four}
use Rattle.av_affine.specs.Squares.{square_of, product, identity}
use Rattle.av_affine.specs.Completion.{rows_of, first_row, entry, unit_row, positions_but, signs_at, IsLastOf, IsCompletion}
use Rattle.av_affine.specs.Completion.IsCompletion.{beside_one, beside_two}
use Rattle.av_affine.specs.Cells.{delta, skip, skip_two, IsAmong, IsPivot, one_cell, one_solved, one_unit, one_inverse, two_cell, two_solved, two_unit, two_inverse, completed_cell, inverse_cell}
use Rattle.av_affine.proofs.Dots.{entry_most, abs_product}
use Rattle.av_affine.proofs.Sums.{skip_after}
use Rattle.av_affine.proofs.Pivots.{contains_one, contains_two}
use Rattle.av_affine.proofs.Inverses.{product_is_identity, one_right, one_left}
use Rattle.av_affine.proofs.Pairs.{IsTurned, head_at, head_other, second_at, second_other, is_turned, by_size, two_right, two_left}

-- ---- the rows

pub one_rows : (v : List ℤ) (p : ℕ) → length v ≤ 4 → p < length v → rows_of (square_of (length v) (one_cell v p)) ≡ v ∷ map (unit_row (length v)) (positions_but (p ∷ []) (length v))
one_rows [] p h l = absurd (omega arith)
one_rows (a ∷ []) zero h l = refl
one_rows (a ∷ []) (suc p) h l = absurd (omega arith)
one_rows (a ∷ b ∷ []) zero h l = refl
one_rows (a ∷ b ∷ []) (suc zero) h l = refl
one_rows (a ∷ b ∷ []) (suc (suc p)) h l = absurd (omega arith)
one_rows (a ∷ b ∷ c ∷ []) zero h l = refl
one_rows (a ∷ b ∷ c ∷ []) (suc zero) h l = refl
one_rows (a ∷ b ∷ c ∷ []) (suc (suc zero)) h l = refl
one_rows (a ∷ b ∷ c ∷ []) (suc (suc (suc p))) h l = absurd (omega arith)
one_rows (a ∷ b ∷ c ∷ d ∷ []) zero h l = refl
one_rows (a ∷ b ∷ c ∷ d ∷ []) (suc zero) h l = refl
one_rows (a ∷ b ∷ c ∷ d ∷ []) (suc (suc zero)) h l = refl
one_rows (a ∷ b ∷ c ∷ d ∷ []) (suc (suc (suc zero))) h l = refl
one_rows (a ∷ b ∷ c ∷ d ∷ []) (suc (suc (suc (suc p)))) h l = absurd (omega arith)
one_rows (a ∷ b ∷ c ∷ d ∷ e ∷ v) p h l = absurd (omega arith)

pub two_rows : (v : List ℤ) (p r : ℕ) → length v ≤ 4 → p < length v → suc r < length v
    → rows_of (square_of (length v) (two_cell v p r)) ≡ v ∷ signs_at p (skip p r) v ∷ map (unit_row (length v)) (positions_but (p ∷ skip p r ∷ []) (length v))
two_rows [] p r h l m = absurd (omega arith)
two_rows (a ∷ []) p r h l m = absurd (omega arith)
two_rows (a ∷ b ∷ []) zero zero h l m = refl
two_rows (a ∷ b ∷ []) (suc zero) zero h l m = refl
two_rows (a ∷ b ∷ []) (suc (suc p)) r h l m = absurd (omega arith)
two_rows (a ∷ b ∷ []) p (suc r) h l m = absurd (omega arith)
two_rows (a ∷ b ∷ c ∷ []) zero zero h l m = refl
two_rows (a ∷ b ∷ c ∷ []) zero (suc zero) h l m = refl
two_rows (a ∷ b ∷ c ∷ []) (suc zero) zero h l m = refl
two_rows (a ∷ b ∷ c ∷ []) (suc zero) (suc zero) h l m = refl
two_rows (a ∷ b ∷ c ∷ []) (suc (suc zero)) zero h l m = refl
two_rows (a ∷ b ∷ c ∷ []) (suc (suc zero)) (suc zero) h l m = refl
two_rows (a ∷ b ∷ c ∷ []) (suc (suc (suc p))) r h l m = absurd (omega arith)
two_rows (a ∷ b ∷ c ∷ []) p (suc (suc r)) h l m = absurd (omega arith)
two_rows (a ∷ b ∷ c ∷ d ∷ []) zero zero h l m = refl
two_rows (a ∷ b ∷ c ∷ d ∷ []) zero (suc zero) h l m = refl
two_rows (a ∷ b ∷ c ∷ d ∷ []) zero (suc (suc zero)) h l m = refl
two_rows (a ∷ b ∷ c ∷ d ∷ []) (suc zero) zero h l m = refl
two_rows (a ∷ b ∷ c ∷ d ∷ []) (suc zero) (suc zero) h l m = refl
two_rows (a ∷ b ∷ c ∷ d ∷ []) (suc zero) (suc (suc zero)) h l m = refl
two_rows (a ∷ b ∷ c ∷ d ∷ []) (suc (suc zero)) zero h l m = refl
two_rows (a ∷ b ∷ c ∷ d ∷ []) (suc (suc zero)) (suc zero) h l m = refl
two_rows (a ∷ b ∷ c ∷ d ∷ []) (suc (suc zero)) (suc (suc zero)) h l m = refl
two_rows (a ∷ b ∷ c ∷ d ∷ []) (suc (suc (suc zero))) zero h l m = refl
two_rows (a ∷ b ∷ c ∷ d ∷ []) (suc (suc (suc zero))) (suc zero) h l m = refl
two_rows (a ∷ b ∷ c ∷ d ∷ []) (suc (suc (suc zero))) (suc (suc zero)) h l m = refl
two_rows (a ∷ b ∷ c ∷ d ∷ []) (suc (suc (suc (suc p)))) r h l m = absurd (omega arith)
two_rows (a ∷ b ∷ c ∷ d ∷ []) p (suc (suc (suc r))) h l m = absurd (omega arith)
two_rows (a ∷ b ∷ c ∷ d ∷ e ∷ v) p r h l m = absurd (omega arith)

first_of : (v : List ℤ) (M : ℕ → ℕ → ℤ) → length v ≤ 4 → ((j : ℕ) → M 0 j ≡ entry v j) → 0 < length v → first_row (square_of (length v) M) ≡ v
first_of [] M h f l = absurd (omega arith)
first_of (a ∷ []) M h f l = λ i. f 0 i ∷ []
first_of (a ∷ b ∷ []) M h f l = λ i. f 0 i ∷ f 1 i ∷ []
first_of (a ∷ b ∷ c ∷ []) M h f l = λ i. f 0 i ∷ f 1 i ∷ f 2 i ∷ []
first_of (a ∷ b ∷ c ∷ d ∷ []) M h f l = λ i. f 0 i ∷ f 1 i ∷ f 2 i ∷ f 3 i ∷ []
first_of (a ∷ b ∷ c ∷ d ∷ e ∷ v) M h f l = absurd (omega arith)

-- the place beside the first is among the others
pub place_within : (n p r : ℕ) → p < n → skip p r < n → suc r < n
place_within n p r l m = elim (compared r p) [
  | inl e ↦ omega (arith, e)
  | inr e ↦ let s = skip_after p r e in omega (arith, s)
]
  where
    compared : (a b : ℕ) → a < b ⊎ b ≤ a
    compared a zero = inr (omega arith)
    compared zero (suc b) = inl (omega arith)
    compared (suc a) (suc b) = elim (compared a b) [ inl h ↦ inl (omega (arith, h)) | inr h ↦ inr (omega (arith, h)) ]

pub among : (v : List ℤ) (pivot : Pivot) → IsPivot v pivot → IsAmong (length v) pivot
among v (One p) s = s.within
among v (Two p r) s = (s.1.within, place_within (length v) p r s.1.within s.2.within)

pub completed_first : (v : List ℤ) (pivot : Pivot) → length v ≤ 4 → IsPivot v pivot → first_row (square_of (length v) (completed_cell pivot v)) ≡ v
completed_first v (One p) h s = first_of v (one_cell v p) h (λ j. refl) (omega (arith, s.within))
completed_first v (Two p r) h s = first_of v (two_cell v p r) h (λ j. refl) (omega (arith, s.1.within))

pub completed_rows : (v : List ℤ) (pivot : Pivot) → length v ≤ 4 → IsPivot v pivot → IsCompletion v (rows_of (square_of (length v) (completed_cell pivot v)))
completed_rows v (One p) h s = beside_one p s (one_rows v p h s.within)
completed_rows v (Two p r) h s = beside_two p (skip p r) s.0 s.1 s.2 (two_rows v p r h s.1.within (place_within (length v) p r s.1.within s.2.within))

-- ---- the inverse

-- a unit times itself
pub unit_square : (a : ℤ) → unsigned_abs a ≡ 1 → a *ℤ a ≡ pos 1
unit_square a e = elim (by_size a 0 e) [ inl f ↦ rw f refl | inr f ↦ rw f refl ]

pub one_size : (v : List ℤ) (p : ℕ) → IsLastOf (1 ∷ []) v p → unsigned_abs (entry v p) ≡ 1
one_size v p s = contains_one (unsigned_abs (entry v p)) 1 s.here

pub two_turned : (v : List ℤ) (p q : ℕ) → IsLastOf (3 ∷ []) v p → IsLastOf (2 ∷ 4 ∷ []) v q → IsTurned (entry v p) (entry v q)
two_turned v p q s t = is_turned (entry v p) (entry v q) (contains_one (unsigned_abs (entry v p)) 3 s.here) (contains_two (unsigned_abs (entry v q)) 2 4 t.here)

one_inverts : (v : List ℤ) (n p : ℕ) → n ≤ 4 → p < n → entry v p *ℤ entry v p ≡ pos 1
    → (product (square_of n (one_cell v p)) (square_of n (one_inverse v p)) ≡ identity n) × (product (square_of n (one_inverse v p)) (square_of n (one_cell v p)) ≡ identity n)
one_inverts v zero p h l u = absurd (omega arith)
one_inverts v (suc n) p h l u = (
  product_is_identity (suc n) (one_cell v p) (one_inverse v p) h (λ i j. one_right v n p i j (omega (arith, l)) u),
  product_is_identity (suc n) (one_inverse v p) (one_cell v p) h (λ i j. one_left v n p i j (omega (arith, l)) u),
)

two_inverts : (v : List ℤ) (n p r : ℕ) → n ≤ 4 → p < n → suc r < n → IsTurned (entry v p) (entry v (skip p r))
    → (product (square_of n (two_cell v p r)) (square_of n (two_inverse v p r)) ≡ identity n) × (product (square_of n (two_inverse v p r)) (square_of n (two_cell v p r)) ≡ identity n)
two_inverts v zero p r h l m u = absurd (omega arith)
two_inverts v (suc zero) p r h l m u = absurd (omega arith)
two_inverts v (suc (suc n)) p r h l m u = (
  product_is_identity (suc (suc n)) (two_cell v p r) (two_inverse v p r) h (two_right v n p r (omega (arith, l)) (omega (arith, m)) u),
  product_is_identity (suc (suc n)) (two_inverse v p r) (two_cell v p r) h (two_left v n p r (omega (arith, l)) (omega (arith, m)) u),
)

pub completed_inverts : (v : List ℤ) (pivot : Pivot) → length v ≤ 4 → IsPivot v pivot
    → (product (square_of (length v) (completed_cell pivot v)) (square_of (length v) (inverse_cell pivot v)) ≡ identity (length v))
    × (product (square_of (length v) (inverse_cell pivot v)) (square_of (length v) (completed_cell pivot v)) ≡ identity (length v))
completed_inverts v (One p) h s = one_inverts v (length v) p h s.within (unit_square (entry v p) (one_size v p s))
completed_inverts v (Two p r) h s = two_inverts v (length v) p r h s.1.within (place_within (length v) p r s.1.within s.2.within) (two_turned v p (skip p r) s.1 s.2)

-- ---- the sizes of entries

chosen_most : (b : Bool) (x : ℤ) (limit : ℕ) → unsigned_abs x ≤ limit → unsigned_abs (if b then x else pos 0) ≤ limit
chosen_most true x limit h = h
chosen_most false x limit h = omega arith

either_most : (b : Bool) (x y : ℤ) (limit : ℕ) → unsigned_abs x ≤ limit → unsigned_abs y ≤ limit → unsigned_abs (if b then x else y) ≤ limit
either_most true x y limit h k = h
either_most false x y limit h k = k

square_most : (n : ℕ) (M : ℕ → ℕ → ℤ) (limit : ℕ) → ((i j : ℕ) → unsigned_abs (M i j) ≤ limit) → All (AtMost limit) (square_of n M).cells
square_most n M limit h = All-from_recursion (AtMost limit) (square_of n M).cells (row 0, (row 1, (row 2, (row 3, tt))))
  where
    cell : (i j : ℕ) → unsigned_abs (if nat_lt i n && nat_lt j n then M i j else pos 0) ≤ limit
    cell i j = chosen_most (nat_lt i n && nat_lt j n) (M i j) limit (h i j)

    row : (i : ℕ) → AtMost limit (four (λ j. if nat_lt i n && nat_lt j n then M i j else pos 0))
    row i = All-from_recursion (λ x. unsigned_abs x ≤ limit) (four (λ j. if nat_lt i n && nat_lt j n then M i j else pos 0)) (cell i 0, (cell i 1, (cell i 2, (cell i 3, tt))))

delta_most : (i j : ℕ) → unsigned_abs (delta i j) ≤ 4
delta_most zero zero = lit≤ tt
delta_most zero (suc j) = lit≤ tt
delta_most (suc i) zero = lit≤ tt
delta_most (suc i) (suc j) = delta_most i j

sign_most : (x : ℤ) → unsigned_abs (int_signum x) ≤ 4
sign_most (pos zero) = omega arith
sign_most (pos (suc n)) = omega arith
sign_most (negsuc n) = lit≤ tt

neg_most : (x : ℤ) (limit : ℕ) → unsigned_abs x ≤ limit → unsigned_abs (neg_ℤ x) ≤ limit
neg_most x limit h = omega (arith, ints, h)

pub completed_most : (v : List ℤ) (pivot : Pivot) (n : ℕ) → AtMost 4 v → All (AtMost 4) (square_of n (completed_cell pivot v)).cells
completed_most v (One p) n h = square_most n (one_cell v p) 4 cell
  where
    cell : (i j : ℕ) → unsigned_abs (one_cell v p i j) ≤ 4
    cell zero j = entry_most 4 v j h
    cell (suc i) j = delta_most (skip p i) j
completed_most v (Two p r) n h = square_most n (two_cell v p r) 4 cell
  where
    cell : (i j : ℕ) → unsigned_abs (two_cell v p r i j) ≤ 4
    cell zero j = entry_most 4 v j h
    cell (suc zero) j = chosen_most (nat_eq j p || nat_eq j (skip p r)) (int_signum (entry v j)) 4 (sign_most (entry v j))
    cell (suc (suc i)) j = delta_most (skip_two p r i) j

pub inverse_most : (v : List ℤ) (pivot : Pivot) (n : ℕ) → AtMost 4 v → IsPivot v pivot → All (AtMost 4) (square_of n (inverse_cell pivot v)).cells
inverse_most v (One p) n h s = square_most n (one_inverse v p) 4 (λ i j. either_most (nat_eq i p) (one_solved v p j) (one_unit p i j) 4 (solved j) (units i j))
  where
    units : (i j : ℕ) → unsigned_abs (one_unit p i j) ≤ 4
    units i zero = lit≤ tt
    units i (suc j) = delta_most (skip p j) i

    solved : (j : ℕ) → unsigned_abs (one_solved v p j) ≤ 4
    solved zero = entry_most 4 v p h
    solved (suc j) = let e = one_size v p s in neg_most (entry v p *ℤ entry v (skip p j)) 4 (abs_product (entry v p) (entry v (skip p j)) 1 4 (omega (arith, e)) (entry_most 4 v (skip p j) h))
inverse_most v (Two p r) n h s =
    let turned = two_turned v p (skip p r) s.1 s.2 in
    square_most n (two_inverse v p r) 4 (λ i j.
    either_most (nat_eq i p) (two_solved v p r (head_at (entry v p) (entry v (skip p r))) (second_at (entry v p) (entry v (skip p r))) j)
    (if nat_eq i (skip p r) then two_solved v p r (head_other (entry v p) (entry v (skip p r))) (second_other (entry v p) (entry v (skip p r))) j else two_unit p r i j) 4
    (solved (head_at (entry v p) (entry v (skip p r))) (second_at (entry v p) (entry v (skip p r))) turned.small_e turned.small_f j)
    (either_most (nat_eq i (skip p r)) (two_solved v p r (head_other (entry v p) (entry v (skip p r))) (second_other (entry v p) (entry v (skip p r))) j) (two_unit p r i j) 4
    (solved (head_other (entry v p) (entry v (skip p r))) (second_other (entry v p) (entry v (skip p r))) turned.small_g turned.small_h j) (units i j)))
  where
    units : (i j : ℕ) → unsigned_abs (two_unit p r i j) ≤ 4
    units i zero = lit≤ tt
    units i (suc zero) = lit≤ tt
    units i (suc (suc j)) = delta_most (skip_two p r j) i

    solved : (e f : ℤ) → unsigned_abs e ≤ 1 → unsigned_abs f ≤ 4 → (j : ℕ) → unsigned_abs (two_solved v p r e f j) ≤ 4
    solved e f k l zero = omega (arith, k)
    solved e f k l (suc zero) = l
    solved e f k l (suc (suc j)) = neg_most (e *ℤ entry v (skip_two p r j)) 4 (abs_product e (entry v (skip_two p r j)) 1 4 k (entry_most 4 v (skip_two p r j) h))
