-- A completed matrix and its inverse.
use Rattle.std.proofs.Common.{◌≡◌, ℕ, zero, suc, ◌<◌, ◌≤◌, refl, ap, sym, ◌∙◌, subst, arith, lit<, List, [], ◌∷◌, ℤ, pos, ◌+ℤ◌, ◌*ℤ◌, neg_ℤ, inl, inr}
use Rattle.std.proofs.lemmas.Int.{ints}
use Rattle.av_affine.specs.Squares.{square_of, product, identity}
use Rattle.av_affine.specs.Completion.{entry}
use Rattle.av_affine.specs.Cells.{delta, skip, one_cell, one_solved, one_unit, one_inverse}
use Rattle.av_affine.proofs.Ring.{ring, cube}
use Rattle.av_affine.proofs.Sums.{total, total_same, total_none, total_apart, total_delta, total_delta_left, delta_same, delta_sym, delta_skipped, delta_skip, skip_all, skip_apart}
use Rattle.av_affine.proofs.Blocks.{one_at, one_beside}

four_by : {A : Type 0} {a b c d a' b' c' d' : A} → a ≡ a' → b ≡ b' → c ≡ c' → d ≡ d' → a ∷ b ∷ c ∷ d ∷ [] ≡ a' ∷ b' ∷ c' ∷ d' ∷ []
four_by p q r s = λ i. p i ∷ q i ∷ r i ∷ s i ∷ []

-- a product by its cells
pub product_is_identity : (n : ℕ) (M N : ℕ → ℕ → ℤ) → n ≤ 4 → ((i j : ℕ) → i < n → j < n → total n (λ k. M i k *ℤ N k j) ≡ delta i j) → product (square_of n M) (square_of n N) ≡ identity n
product_is_identity zero M N l h = refl
product_is_identity (suc zero) M N l h =
    ap (λ cells. record { size = 1; cells = cells }) (four_by (four_by (h 0 0 (lit< tt) (lit< tt)) refl refl refl) refl refl refl)
product_is_identity (suc (suc zero)) M N l h =
    let at : (i j : ℕ) → i < 2 → j < 2 → total 2 (λ k. M i k *ℤ N k j) ≡ delta i j = h in
    ap (λ cells. record { size = 2; cells = cells })
    (four_by (four_by (at 0 0 (lit< tt) (lit< tt)) (at 0 1 (lit< tt) (lit< tt)) refl refl) (four_by (at 1 0 (lit< tt) (lit< tt)) (at 1 1 (lit< tt) (lit< tt)) refl refl) refl refl)
product_is_identity (suc (suc (suc zero))) M N l h =
    let row = λ (i : ℕ) (p : i < 3). four_by (h i 0 p (lit< tt)) (h i 1 p (lit< tt)) (h i 2 p (lit< tt)) (let z : pos 0 ≡ pos 0 = refl in z) in
    ap (λ cells. record { size = 3; cells = cells }) (four_by (row 0 (lit< tt)) (row 1 (lit< tt)) (row 2 (lit< tt)) refl)
product_is_identity (suc (suc (suc (suc zero)))) M N l h =
    let row = λ (i : ℕ) (p : i < 4). four_by (h i 0 p (lit< tt)) (h i 1 p (lit< tt)) (h i 2 p (lit< tt)) (h i 3 p (lit< tt)) in
    ap (λ cells. record { size = 4; cells = cells }) (four_by (row 0 (lit< tt)) (row 1 (lit< tt)) (row 2 (lit< tt)) (row 3 (lit< tt)))
product_is_identity (suc (suc (suc (suc (suc n))))) M N l h = absurd (omega arith)

-- ---- beside one position

-- a sum over a column of the inverse
one_split : (v : List ℤ) (n p j : ℕ) (g : ℕ → ℤ) → p ≤ n → total (suc n) (λ k. g k *ℤ one_inverse v p k j) ≡ g p *ℤ one_solved v p j +ℤ total n (λ k. g (skip p k) *ℤ one_unit p (skip p k) j)
one_split v n p j g h =
    let e = total_apart n p (λ k. g k *ℤ one_inverse v p k j) h in
    let f = total_same n (λ k. g (skip p k) *ℤ one_inverse v p (skip p k) j) (λ k. g (skip p k) *ℤ one_unit p (skip p k) j) (λ k l. ap (λ x. g (skip p k) *ℤ x) (one_beside v p (skip p k) j (skip_apart p k))) in
    e ∙ ap (λ x. g p *ℤ x +ℤ total n (λ k. g (skip p k) *ℤ one_inverse v p (skip p k) j)) (one_at v p p j refl) ∙ ap (λ y. g p *ℤ one_solved v p j +ℤ y) f

cancel_one : (a x : ℤ) → a *ℤ a ≡ pos 1 → a *ℤ neg_ℤ (a *ℤ x) +ℤ x ≡ pos 0
cancel_one a x h = let e = simp ring at (ap (λ y. y *ℤ x) h) in simp ring (omega (arith, ints, cube, e))

-- sums with zeros
pub none_right : (n : ℕ) (f : ℕ → ℤ) → total n (λ k. f k *ℤ pos 0) ≡ pos 0
none_right n f = total_none n (λ k. f k *ℤ pos 0) (λ k l. omega (arith, ints))

pub one_right : (v : List ℤ) (n p i j : ℕ) → p ≤ n → entry v p *ℤ entry v p ≡ pos 1 → i < suc n → j < suc n → total (suc n) (λ k. one_cell v p i k *ℤ one_inverse v p k j) ≡ delta i j
one_right v n p zero zero h u l m =
    let e = one_split v n p 0 (one_cell v p 0) h in
    let z = none_right n (λ k. entry v (skip p k)) in
    omega (arith, ints, e, z, u)
one_right v n p zero (suc t) h u l m =
    let e = one_split v n p (suc t) (one_cell v p 0) h in
    let f = total_same n (λ k. entry v (skip p k) *ℤ delta (skip p t) (skip p k)) (λ k. entry v (skip p k) *ℤ delta t k) (λ k l. ap (λ x. entry v (skip p k) *ℤ x) (delta_skip p t k)) in
    let g = total_delta n t (λ k. entry v (skip p k)) (omega arith) in
    e ∙ ap (λ y. entry v p *ℤ neg_ℤ (entry v p *ℤ entry v (skip p t)) +ℤ y) (f ∙ g) ∙ cancel_one (entry v p) (entry v (skip p t)) u
one_right v n p (suc i) zero h u l m =
    let e = one_split v n p 0 (one_cell v p (suc i)) h in
    let z = none_right n (λ k. delta (skip p i) (skip p k)) in
    let d = ap (λ x. x *ℤ entry v p) (delta_skipped p i) in
    omega (arith, ints, e, z, d)
one_right v n p (suc i) (suc t) h u l m =
    let e = one_split v n p (suc t) (one_cell v p (suc i)) h in
    let f = total_same n (λ k. delta (skip p i) (skip p k) *ℤ delta (skip p t) (skip p k)) (λ k. delta i k *ℤ delta (skip p t) (skip p k)) (λ k l. ap (λ x. x *ℤ delta (skip p t) (skip p k)) (delta_skip p i k)) in
    let g = total_delta_left n i (λ k. delta (skip p t) (skip p k)) (omega arith) in
    let d = ap (λ x. x *ℤ one_solved v p (suc t)) (delta_skipped p i) in
    let s = delta_skip p t i ∙ delta_sym t i in
    omega (arith, ints, e, f, g, d, s)

-- the row of the inverse that solves for p
one_left_at : (v : List ℤ) (n p j : ℕ) → p ≤ n → entry v p *ℤ entry v p ≡ pos 1 → j < suc n
    → entry v p *ℤ entry v j +ℤ total n (λ k. neg_ℤ (entry v p *ℤ entry v (skip p k)) *ℤ delta (skip p k) j) ≡ delta p j
one_left_at v n p j h u l = elim (skip_all n p j l h) [
  | inl e ↦ subst (λ (j : ℕ). entry v p *ℤ entry v j +ℤ total n (λ k. neg_ℤ (entry v p *ℤ entry v (skip p k)) *ℤ delta (skip p k) j) ≡ delta p j) (sym e) here
  | inr w ↦ subst (λ (j : ℕ). entry v p *ℤ entry v j +ℤ total n (λ k. neg_ℤ (entry v p *ℤ entry v (skip p k)) *ℤ delta (skip p k) j) ≡ delta p j) (sym w.2) (there w.0 w.1)
]
  where
    here : entry v p *ℤ entry v p +ℤ total n (λ k. neg_ℤ (entry v p *ℤ entry v (skip p k)) *ℤ delta (skip p k) p) ≡ delta p p
    here =
        let f = total_same n (λ k. neg_ℤ (entry v p *ℤ entry v (skip p k)) *ℤ delta (skip p k) p) (λ k. neg_ℤ (entry v p *ℤ entry v (skip p k)) *ℤ pos 0) (λ k l. ap (λ x. neg_ℤ (entry v p *ℤ entry v (skip p k)) *ℤ x) (delta_skipped p k)) in
        let z = none_right n (λ k. neg_ℤ (entry v p *ℤ entry v (skip p k))) in
        let d = delta_same p in
        omega (arith, ints, f, z, u, d)

    there : (t : ℕ) → t < n → entry v p *ℤ entry v (skip p t) +ℤ total n (λ k. neg_ℤ (entry v p *ℤ entry v (skip p k)) *ℤ delta (skip p k) (skip p t)) ≡ delta p (skip p t)
    there t m =
        let f = total_same n (λ k. neg_ℤ (entry v p *ℤ entry v (skip p k)) *ℤ delta (skip p k) (skip p t)) (λ k. neg_ℤ (entry v p *ℤ entry v (skip p k)) *ℤ delta t k)
        (λ k l. ap (λ x. neg_ℤ (entry v p *ℤ entry v (skip p k)) *ℤ x) (delta_skip p k t ∙ delta_sym k t)) in
        let g = total_delta n t (λ k. neg_ℤ (entry v p *ℤ entry v (skip p k))) m in
        let d = delta_sym p (skip p t) ∙ delta_skipped p t in
        omega (arith, ints, f, g, d)

-- the unit rows of the inverse
one_left_beside : (v : List ℤ) (n p s j : ℕ) → s < n → pos 0 *ℤ entry v j +ℤ total n (λ k. delta (skip p k) (skip p s) *ℤ delta (skip p k) j) ≡ delta (skip p s) j
one_left_beside v n p s j h =
    let f = total_same n (λ k. delta (skip p k) (skip p s) *ℤ delta (skip p k) j) (λ k. delta s k *ℤ delta (skip p k) j) (λ k l. ap (λ x. x *ℤ delta (skip p k) j) (delta_skip p k s ∙ delta_sym k s)) in
    let g = total_delta_left n s (λ k. delta (skip p k) j) h in
    omega (arith, ints, f, g)

pub one_left : (v : List ℤ) (n p i j : ℕ) → p ≤ n → entry v p *ℤ entry v p ≡ pos 1 → i < suc n → j < suc n → total (suc n) (λ k. one_inverse v p i k *ℤ one_cell v p k j) ≡ delta i j
one_left v n p i j h u l m = elim (skip_all n p i l h) [
  | inl e ↦ total_same (suc n) (λ k. one_inverse v p i k *ℤ one_cell v p k j) (λ k. one_solved v p k *ℤ one_cell v p k j) (λ k l. ap (λ x. x *ℤ one_cell v p k j) (one_at v p i k e)) ∙ one_left_at v n p j h u m ∙ ap (λ k. delta k j) (sym e)
  | inr w ↦ total_same (suc n) (λ k. one_inverse v p i k *ℤ one_cell v p k j) (λ k. one_unit p (skip p w.0) k *ℤ one_cell v p k j)
      (λ k l. ap (λ x. x *ℤ one_cell v p k j) (ap (λ i. one_inverse v p i k) w.2 ∙ one_beside v p (skip p w.0) k (skip_apart p w.0))) ∙ one_left_beside v n p w.0 j w.1 ∙ ap (λ k. delta k j) (sym w.2)
]
