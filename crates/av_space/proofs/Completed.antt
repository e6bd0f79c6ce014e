-- The rows of a completion are those of a matrix with a whole inverse. The matrices are av_affine's, cell by cell.
use Rattle.std.proofs.Common.{◌≡◌, ◌≢◌, ℕ, zero, suc, ◌<◌, ◌≤◌, refl, arith, List, [], ◌∷◌, length, map, ℤ, pos, ◌*ℤ◌, inl, inr, sym, ap, subst, ◌∙◌}
use Rattle.std.specs.Prelude.{unsigned_abs}
use Rattle.av_affine.specs.Squares.{square_of, product, identity}
use Rattle.av_affine.specs.Completion.{rows_of, entry, unit_row, positions_but, signs_at, IsLastOf, IsCompletion}
use Rattle.av_affine.specs.Completion.IsCompletion.{beside_one, beside_two}
use Rattle.av_affine.specs.Cells.{skip, one_cell, one_inverse, two_cell, two_inverse}
use Rattle.av_affine.proofs.Pivots.{contains_one, contains_two}
use Rattle.av_affine.proofs.Inverses.{product_is_identity, one_left}
use Rattle.av_affine.proofs.Pairs.{IsTurned, two_left}
use Rattle.av_space.proofs.Between.{Keeps}
use Rattle.av_space.proofs.Inverse.{square_keeps}
use Rattle.av_affine.proofs.Completing.{one_rows, one_size, place_within, two_rows, two_turned, unit_square}

-- ---- the rows

-- each position but p is one of those beside p
left_beside : (p q : ℕ) → q ≢ p → (r : ℕ) × (skip p r ≡ q)
left_beside zero zero h = absurd (h refl)
left_beside zero (suc q) h = (q, refl)
left_beside (suc p) zero h = (0, refl)
left_beside (suc p) (suc q) h = let s = left_beside p q (λ e. h (ap suc e)) in (suc s.0, ap suc s.1)

-- ---- the inverses

one_inverts : (v : List ℤ) (n p : ℕ) → n ≤ 4 → p < n → entry v p *ℤ entry v p ≡ pos 1 → product (square_of n (one_inverse v p)) (square_of n (one_cell v p)) ≡ identity n
one_inverts v zero p h l u = absurd (omega arith)
one_inverts v (suc n) p h l u = product_is_identity (suc n) (one_inverse v p) (one_cell v p) h (λ i j. one_left v n p i j (omega (arith, l)) u)

two_inverts : (v : List ℤ) (n p r : ℕ) → n ≤ 4 → p < n → suc r < n → IsTurned (entry v p) (entry v (skip p r)) → product (square_of n (two_inverse v p r)) (square_of n (two_cell v p r)) ≡ identity n
two_inverts v zero p r h l m u = absurd (omega arith)
two_inverts v (suc zero) p r h l m u = absurd (omega arith)
two_inverts v (suc (suc n)) p r h l m u = product_is_identity (suc (suc n)) (two_inverse v p r) (two_cell v p r) h (two_left v n p r (omega (arith, l)) (omega (arith, m)) u)

-- an entry of absolute value 2 or 4 is none of absolute value 3
apart : (v : List ℤ) (p q : ℕ) → IsLastOf (3 ∷ []) v p → IsLastOf (2 ∷ 4 ∷ []) v q → q ≢ p
apart v p q a b e =
    let three : unsigned_abs (entry v q) ≡ 3 = ap (λ (k : ℕ). unsigned_abs (entry v k)) e ∙ contains_one (unsigned_abs (entry v p)) 3 a.here in
    elim (contains_two (unsigned_abs (entry v q)) 2 4 b.here) [
      | inl t ↦ absurd (omega (arith, three, t))
      | inr t ↦ absurd (omega (arith, three, t))
    ]

abbrev HasInverse : List ℤ → List (List ℤ) → Type 0
HasInverse v rows = (inverse : List (List ℤ)) × Keeps rows inverse (length v)

of_square : (v : List ℤ) (rows : List (List ℤ)) (cell back : ℕ → ℕ → ℤ) → length v ≤ 4 → rows_of (square_of (length v) cell) ≡ rows
    → product (square_of (length v) back) (square_of (length v) cell) ≡ identity (length v) → HasInverse v rows
of_square v rows cell back few e p =
    let m = square_of (length v) cell in
    let i = square_of (length v) back in
    let keeps : Keeps (rows_of m) (rows_of i) (length v) = square_keeps m i refl refl few refl p in
    (rows_of i, subst (λ (r : List (List ℤ)). Keeps r (rows_of i) (length v)) e keeps)

pub has_inverse : (v : List ℤ) (rows : List (List ℤ)) → length v ≤ 4 → IsCompletion v rows → HasInverse v rows
has_inverse v rows few (beside_one p s e) =
    of_square v rows (one_cell v p) (one_inverse v p) few (one_rows v p few s.within ∙ sym e) (one_inverts v (length v) p few s.within (unit_square (entry v p) (one_size v p s)))
has_inverse v rows few (beside_two p q n s t e) =
    let r = left_beside p q (apart v p q s t) in
    let there : IsLastOf (2 ∷ 4 ∷ []) v (skip p r.0) = subst (λ (k : ℕ). IsLastOf (2 ∷ 4 ∷ []) v k) (sym r.1) t in
    let within : suc r.0 < length v = place_within (length v) p r.0 s.within there.within in
    of_square v rows (two_cell v p r.0) (two_inverse v p r.0) few
    (two_rows v p r.0 few s.within within ∙ ap (λ (k : ℕ). v ∷ signs_at p k v ∷ map (unit_row (length v)) (positions_but (p ∷ k ∷ []) (length v))) r.1 ∙ sym e)
    (two_inverts v (length v) p r.0 few s.within within (two_turned v p (skip p r.0) s there))
