-- A matrix completed beside two positions, and its inverse.
use Rattle.std.proofs.Common.{◌≡◌, ◌≢◌, ℕ, zero, suc, ◌<◌, ◌≤◌, refl, ap, sym, ◌∙◌, arith, lit≤, List, ℤ, pos, ◌+ℤ◌, ◌*ℤ◌, neg_ℤ, ◌⊎◌, inl, inr, eq-eqb}
use Rattle.std.proofs.Math.IntN.{negsuc}
use Rattle.std.specs.Int.{int_signum}
use Rattle.std.specs.Int.RustNames.{unsigned_abs}
use Rattle.std.proofs.lemmas.Int.{ints}
use Rattle.std.proofs.lemmas.Bool.{ne_eqb}
use Rattle.av_affine.specs.Completion.{entry}
use Rattle.av_affine.specs.Cells.{delta, skip, skip_two, turn, two_cell, two_solved, two_unit, two_inverse}
use Rattle.av_affine.proofs.Ring.{ring, cube}
use Rattle.av_affine.proofs.Sums.{total, total_same, total_none, total_apart, total_delta, total_delta_left, delta_same, delta_sym, delta_skipped, delta_skip, skip_all, skip_apart}
use Rattle.av_affine.proofs.Blocks.{two_at, two_at_other, two_beside}
use Rattle.av_affine.proofs.Inverses.{none_right}

-- ---- the block of two numbers over their signs

-- the rows (a, b) and (c, d) times the columns (e, g) and (f, h), and the other way round
pub record IsBlock (a b c d e f g h : ℤ) : Type 0 where
  pub right00 : a *ℤ e +ℤ b *ℤ g ≡ pos 1
  pub right01 : a *ℤ f +ℤ b *ℤ h ≡ pos 0
  pub right10 : c *ℤ e +ℤ d *ℤ g ≡ pos 0
  pub right11 : c *ℤ f +ℤ d *ℤ h ≡ pos 1
  pub left00 : e *ℤ a +ℤ f *ℤ c ≡ pos 1
  pub left01 : e *ℤ b +ℤ f *ℤ d ≡ pos 0
  pub left10 : g *ℤ a +ℤ h *ℤ c ≡ pos 0
  pub left11 : g *ℤ b +ℤ h *ℤ d ≡ pos 1
  pub small_e : unsigned_abs e ≤ 1
  pub small_f : unsigned_abs f ≤ 4
  pub small_g : unsigned_abs g ≤ 1
  pub small_h : unsigned_abs h ≤ 4

-- the first numbers of the rows that solve for the two entries
abbrev pub head_at : ℤ → ℤ → ℤ
head_at a b = turn a b *ℤ int_signum b

abbrev pub head_other : ℤ → ℤ → ℤ
head_other a b = neg_ℤ (turn a b *ℤ int_signum a)

-- the second numbers
abbrev pub second_at : ℤ → ℤ → ℤ
second_at a b = neg_ℤ (turn a b *ℤ b)

abbrev pub second_other : ℤ → ℤ → ℤ
second_other a b = turn a b *ℤ a

abbrev pub IsTurned : ℤ → ℤ → Type 0
IsTurned a b = IsBlock a b (int_signum a) (int_signum b) (head_at a b) (second_at a b) (head_other a b) (second_other a b)

pub by_size : (x : ℤ) (n : ℕ) → unsigned_abs x ≡ suc n → (x ≡ pos (suc n)) ⊎ (x ≡ negsuc n)
by_size (pos x) n e = inl (ap pos e)
by_size (negsuc x) n e = inr (omega (arith, ints, e))

turned : (a b : ℤ) → (a ≡ pos 3) ⊎ (a ≡ negsuc 2) → ((b ≡ pos 2) ⊎ (b ≡ negsuc 1)) ⊎ ((b ≡ pos 4) ⊎ (b ≡ negsuc 3)) → IsTurned a b
turned a b (inl e) (inl (inl f)) = rw (e, f) (record { right00 = refl; right01 = refl; right10 = refl; right11 = refl; left00 = refl; left01 = refl; left10 = refl; left11 = refl; small_e = lit≤ tt; small_f = lit≤ tt; small_g = lit≤ tt; small_h = lit≤ tt })
turned a b (inl e) (inl (inr f)) = rw (e, f) (record { right00 = refl; right01 = refl; right10 = refl; right11 = refl; left00 = refl; left01 = refl; left10 = refl; left11 = refl; small_e = lit≤ tt; small_f = lit≤ tt; small_g = lit≤ tt; small_h = lit≤ tt })
turned a b (inl e) (inr (inl f)) = rw (e, f) (record { right00 = refl; right01 = refl; right10 = refl; right11 = refl; left00 = refl; left01 = refl; left10 = refl; left11 = refl; small_e = lit≤ tt; small_f = lit≤ tt; small_g = lit≤ tt; small_h = lit≤ tt })
turned a b (inl e) (inr (inr f)) = rw (e, f) (record { right00 = refl; right01 = refl; right10 = refl; right11 = refl; left00 = refl; left01 = refl; left10 = refl; left11 = refl; small_e = lit≤ tt; small_f = lit≤ tt; small_g = lit≤ tt; small_h = lit≤ tt })
turned a b (inr e) (inl (inl f)) = rw (e, f) (record { right00 = refl; right01 = refl; right10 = refl; right11 = refl; left00 = refl; left01 = refl; left10 = refl; left11 = refl; small_e = lit≤ tt; small_f = lit≤ tt; small_g = lit≤ tt; small_h = lit≤ tt })
turned a b (inr e) (inl (inr f)) = rw (e, f) (record { right00 = refl; right01 = refl; right10 = refl; right11 = refl; left00 = refl; left01 = refl; left10 = refl; left11 = refl; small_e = lit≤ tt; small_f = lit≤ tt; small_g = lit≤ tt; small_h = lit≤ tt })
turned a b (inr e) (inr (inl f)) = rw (e, f) (record { right00 = refl; right01 = refl; right10 = refl; right11 = refl; left00 = refl; left01 = refl; left10 = refl; left11 = refl; small_e = lit≤ tt; small_f = lit≤ tt; small_g = lit≤ tt; small_h = lit≤ tt })
turned a b (inr e) (inr (inr f)) = rw (e, f) (record { right00 = refl; right01 = refl; right10 = refl; right11 = refl; left00 = refl; left01 = refl; left10 = refl; left11 = refl; small_e = lit≤ tt; small_f = lit≤ tt; small_g = lit≤ tt; small_h = lit≤ tt })

pub is_turned : (a b : ℤ) → unsigned_abs a ≡ 3 → (unsigned_abs b ≡ 2) ⊎ (unsigned_abs b ≡ 4) → IsTurned a b
is_turned a b e (inl f) = turned a b (by_size a 2 e) (inl (by_size b 1 f))
is_turned a b e (inr f) = turned a b (by_size a 2 e) (inr (by_size b 3 f))

cancel_two : (a e b g x : ℤ) → a *ℤ e +ℤ b *ℤ g ≡ pos 1 → a *ℤ neg_ℤ (e *ℤ x) +ℤ (b *ℤ neg_ℤ (g *ℤ x) +ℤ x) ≡ pos 0
cancel_two a e b g x h = let k = simp ring at (ap (λ y. y *ℤ x) h) in simp ring (omega (arith, ints, cube, k))

cancel_none : (a e b g x : ℤ) → a *ℤ e +ℤ b *ℤ g ≡ pos 0 → a *ℤ neg_ℤ (e *ℤ x) +ℤ (b *ℤ neg_ℤ (g *ℤ x) +ℤ pos 0) ≡ pos 0
cancel_none a e b g x h = let k = simp ring at (ap (λ y. y *ℤ x) h) in simp ring (omega (arith, ints, cube, k))

-- ---- sums beside two positions

two_apart : (n p r : ℕ) (f : ℕ → ℤ) → p ≤ suc n → r ≤ n → total (suc (suc n)) f ≡ f p +ℤ (f (skip p r) +ℤ total n (λ k. f (skip_two p r k)))
two_apart n p r f h l = total_apart (suc n) p f h ∙ ap (λ x. f p +ℤ x) (total_apart n r (λ k. f (skip p k)) l)

beside_first : (p r k : ℕ) → delta (skip_two p r k) p ≡ pos 0
beside_first p r k = delta_skipped p (skip r k)

beside_second : (p r k : ℕ) → delta (skip_two p r k) (skip p r) ≡ pos 0
beside_second p r k = delta_skip p (skip r k) r ∙ delta_skipped r k

beside_both : (p r i k : ℕ) → delta (skip_two p r i) (skip_two p r k) ≡ delta i k
beside_both p r i k = delta_skip p (skip r i) (skip r k) ∙ delta_skip r i k

skip_same : (l i j : ℕ) → skip l i ≡ skip l j → i ≡ j
skip_same zero i j e = omega (arith, e)
skip_same (suc l) zero zero e = refl
skip_same (suc l) zero (suc j) e = absurd (omega (arith, e))
skip_same (suc l) (suc i) zero e = absurd (omega (arith, e))
skip_same (suc l) (suc i) (suc j) e = ap suc (skip_same l i j (omega (arith, e)))

apart_second : (p r k : ℕ) → skip_two p r k ≢ skip p r
apart_second p r k e = skip_apart r k (skip_same p (skip r k) r e)

-- the signs
signs_first : (v : List ℤ) (p r : ℕ) → two_cell v p r 1 p ≡ int_signum (entry v p)
signs_first v p r = let t = eq-eqb p p refl in rw t refl

signs_second : (v : List ℤ) (p r : ℕ) → two_cell v p r 1 (skip p r) ≡ int_signum (entry v (skip p r))
signs_second v p r = let s = ne_eqb (skip p r) p (skip_apart p r) in let t = eq-eqb (skip p r) (skip p r) refl in rw (s, t) refl

signs_beside : (v : List ℤ) (p r k : ℕ) → two_cell v p r 1 (skip_two p r k) ≡ pos 0
signs_beside v p r k = let s = ne_eqb (skip_two p r k) p (skip_apart p (skip r k)) in let t = ne_eqb (skip_two p r k) (skip p r) (apart_second p r k) in rw (s, t) refl

-- a sum over a column of the inverse
two_split : (v : List ℤ) (n p r j : ℕ) (g : ℕ → ℤ) → p ≤ suc n → r ≤ n → total (suc (suc n)) (λ k. g k *ℤ two_inverse v p r k j)
    ≡ g p *ℤ two_solved v p r (head_at (entry v p) (entry v (skip p r))) (second_at (entry v p) (entry v (skip p r))) j
    +ℤ (g (skip p r) *ℤ two_solved v p r (head_other (entry v p) (entry v (skip p r))) (second_other (entry v p) (entry v (skip p r))) j
    +ℤ total n (λ k. g (skip_two p r k) *ℤ two_unit p r (skip_two p r k) j))
two_split v n p r j g h l =
    let e = two_apart n p r (λ k. g k *ℤ two_inverse v p r k j) h l in
    let f = total_same n (λ k. g (skip_two p r k) *ℤ two_inverse v p r (skip_two p r k) j) (λ k. g (skip_two p r k) *ℤ two_unit p r (skip_two p r k) j)
    (λ k m. ap (λ x. g (skip_two p r k) *ℤ x) (two_beside v p r (skip_two p r k) j (skip_apart p (skip r k)) (apart_second p r k))) in
    let a = ap (λ x. g p *ℤ x) (two_at v p r p j refl) in
    let b = ap (λ x. g (skip p r) *ℤ x) (two_at_other v p r (skip p r) j (skip_apart p r) refl) in
    omega (arith, ints, e, f, a, b)

none_left : (n : ℕ) (f g : ℕ → ℤ) → ((k : ℕ) → f k ≡ pos 0) → total n (λ k. f k *ℤ g k) ≡ pos 0
none_left n f g h = total_none n (λ k. f k *ℤ g k) (λ k l. ap (λ x. x *ℤ g k) (h k) ∙ (let z : pos 0 *ℤ g k ≡ pos 0 = omega (arith, ints) in z))

module _ (v : List ℤ) (n p r : ℕ) (first : p ≤ suc n) (second : r ≤ n) (block : IsTurned (entry v p) (entry v (skip p r))) where
  -- the rows of v, of its signs, and the unit rows, times the columns of the inverse
  row_vector : (j : ℕ) → j < suc (suc n) → total (suc (suc n)) (λ k. entry v k *ℤ two_inverse v p r k j) ≡ delta 0 j
  row_vector zero l = let e = two_split v n p r 0 (entry v) first second in let z = none_right n (λ k. entry v (skip_two p r k)) in omega (arith, ints, e, z, block.right00)
  row_vector (suc zero) l = let e = two_split v n p r 1 (entry v) first second in let z = none_right n (λ k. entry v (skip_two p r k)) in omega (arith, ints, e, z, block.right01)
  row_vector (suc (suc t)) l =
      let e = two_split v n p r (suc (suc t)) (entry v) first second in
      let x = entry v (skip_two p r t) in
      let f = total_same n (λ k. entry v (skip_two p r k) *ℤ delta (skip_two p r t) (skip_two p r k)) (λ k. entry v (skip_two p r k) *ℤ delta t k) (λ k m. ap (λ y. entry v (skip_two p r k) *ℤ y) (beside_both p r t k)) in
      let g = total_delta n t (λ k. entry v (skip_two p r k)) (omega arith) in
      let c = cancel_two (entry v p) (head_at (entry v p) (entry v (skip p r))) (entry v (skip p r)) (head_other (entry v p) (entry v (skip p r))) x block.right00 in
      omega (arith, ints, e, f, g, c)

  row_signs : (j : ℕ) → j < suc (suc n) → total (suc (suc n)) (λ k. two_cell v p r 1 k *ℤ two_inverse v p r k j) ≡ delta 1 j
  row_signs zero l =
      let e = two_split v n p r 0 (two_cell v p r 1) first second in
      let z = none_left n (λ k. two_cell v p r 1 (skip_two p r k)) (λ k. pos 0) (signs_beside v p r) in
      let a = ap (λ x. x *ℤ head_at (entry v p) (entry v (skip p r))) (signs_first v p r) in
      let b = ap (λ x. x *ℤ head_other (entry v p) (entry v (skip p r))) (signs_second v p r) in
      omega (arith, ints, e, z, a, b, block.right10)
  row_signs (suc zero) l =
      let e = two_split v n p r 1 (two_cell v p r 1) first second in
      let z = none_left n (λ k. two_cell v p r 1 (skip_two p r k)) (λ k. pos 0) (signs_beside v p r) in
      let a = ap (λ x. x *ℤ second_at (entry v p) (entry v (skip p r))) (signs_first v p r) in
      let b = ap (λ x. x *ℤ second_other (entry v p) (entry v (skip p r))) (signs_second v p r) in
      omega (arith, ints, e, z, a, b, block.right11)
  row_signs (suc (suc t)) l =
      let e = two_split v n p r (suc (suc t)) (two_cell v p r 1) first second in
      let x = entry v (skip_two p r t) in
      let z = none_left n (λ k. two_cell v p r 1 (skip_two p r k)) (λ k. delta (skip_two p r t) (skip_two p r k)) (signs_beside v p r) in
      let a = ap (λ y. y *ℤ neg_ℤ (head_at (entry v p) (entry v (skip p r)) *ℤ x)) (signs_first v p r) in
      let b = ap (λ y. y *ℤ neg_ℤ (head_other (entry v p) (entry v (skip p r)) *ℤ x)) (signs_second v p r) in
      let c = cancel_none (int_signum (entry v p)) (head_at (entry v p) (entry v (skip p r))) (int_signum (entry v (skip p r))) (head_other (entry v p) (entry v (skip p r))) x block.right10 in
      omega (arith, ints, e, z, a, b, c)

  row_unit : (i j : ℕ) → i < n → j < suc (suc n) → total (suc (suc n)) (λ k. delta (skip_two p r i) k *ℤ two_inverse v p r k j) ≡ delta (suc (suc i)) j
  row_unit i j l m =
      let e = two_split v n p r j (delta (skip_two p r i)) first second in
      let f = total_same n (λ k. delta (skip_two p r i) (skip_two p r k) *ℤ two_unit p r (skip_two p r k) j) (λ k. delta i k *ℤ two_unit p r (skip_two p r k) j) (λ k o. ap (λ x. x *ℤ two_unit p r (skip_two p r k) j) (beside_both p r i k)) in
      let g = total_delta_left n i (λ k. two_unit p r (skip_two p r k) j) l in
      let a = ap (λ x. x *ℤ two_solved v p r (head_at (entry v p) (entry v (skip p r))) (second_at (entry v p) (entry v (skip p r))) j) (beside_first p r i) in
      let b = ap (λ x. x *ℤ two_solved v p r (head_other (entry v p) (entry v (skip p r))) (second_other (entry v p) (entry v (skip p r))) j) (beside_second p r i) in
      let u = unit_at j in
      omega (arith, ints, e, f, g, a, b, u)
    where
      unit_at : (j : ℕ) → two_unit p r (skip_two p r i) j ≡ delta (suc (suc i)) j
      unit_at zero = refl
      unit_at (suc zero) = refl
      unit_at (suc (suc t)) = beside_both p r t i ∙ delta_sym t i

  pub two_right : (i j : ℕ) → i < suc (suc n) → j < suc (suc n) → total (suc (suc n)) (λ k. two_cell v p r i k *ℤ two_inverse v p r k j) ≡ delta i j
  two_right zero j l m = row_vector j m
  two_right (suc zero) j l m = row_signs j m
  two_right (suc (suc i)) j l m = row_unit i j (omega arith) m

  -- a row of the inverse that solves for one of the two entries, times the columns
  abbrev solved_sum : ℤ → ℤ → ℕ → ℤ
  solved_sum e f j = e *ℤ entry v j +ℤ (f *ℤ two_cell v p r 1 j +ℤ total n (λ k. neg_ℤ (e *ℤ entry v (skip_two p r k)) *ℤ delta (skip_two p r k) j))

  sum_none : (e : ℤ) (j : ℕ) → ((k : ℕ) → delta (skip_two p r k) j ≡ pos 0) → total n (λ k. neg_ℤ (e *ℤ entry v (skip_two p r k)) *ℤ delta (skip_two p r k) j) ≡ pos 0
  sum_none e j h =
      total_same n (λ k. neg_ℤ (e *ℤ entry v (skip_two p r k)) *ℤ delta (skip_two p r k) j) (λ k. neg_ℤ (e *ℤ entry v (skip_two p r k)) *ℤ pos 0) (λ k l. ap (λ x. neg_ℤ (e *ℤ entry v (skip_two p r k)) *ℤ x) (h k))
      ∙ none_right n (λ k. neg_ℤ (e *ℤ entry v (skip_two p r k)))

  sum_first : (e f : ℤ) → solved_sum e f p ≡ e *ℤ entry v p +ℤ f *ℤ int_signum (entry v p)
  sum_first e f = let z = sum_none e p (beside_first p r) in let s = ap (λ x. f *ℤ x) (signs_first v p r) in omega (arith, ints, z, s)

  sum_second : (e f : ℤ) → solved_sum e f (skip p r) ≡ e *ℤ entry v (skip p r) +ℤ f *ℤ int_signum (entry v (skip p r))
  sum_second e f = let z = sum_none e (skip p r) (beside_second p r) in let s = ap (λ x. f *ℤ x) (signs_second v p r) in omega (arith, ints, z, s)

  sum_beside : (e f : ℤ) (t : ℕ) → t < n → solved_sum e f (skip_two p r t) ≡ pos 0
  sum_beside e f t l =
      let s = ap (λ x. f *ℤ x) (signs_beside v p r t) in
      let a = total_same n (λ k. neg_ℤ (e *ℤ entry v (skip_two p r k)) *ℤ delta (skip_two p r k) (skip_two p r t)) (λ k. neg_ℤ (e *ℤ entry v (skip_two p r k)) *ℤ delta t k)
      (λ k m. ap (λ x. neg_ℤ (e *ℤ entry v (skip_two p r k)) *ℤ x) (beside_both p r k t ∙ delta_sym k t)) in
      let b = total_delta n t (λ k. neg_ℤ (e *ℤ entry v (skip_two p r k))) l in
      omega (arith, ints, s, a, b)

  -- each position is one of the two, or beside them
  skip_two_all : (i : ℕ) → i < suc (suc n) → (i ≡ p) ⊎ ((i ≡ skip p r) ⊎ ((t : ℕ) × (t < n) × (i ≡ skip_two p r t)))
  skip_two_all i l = elim (skip_all (suc n) p i l first) [
    | inl e ↦ inl e
    | inr w ↦ inr (elim (skip_all n r w.0 w.1 second) [ inl e ↦ inl (w.2 ∙ ap (skip p) e) | inr x ↦ inr (x.0, x.1, w.2 ∙ ap (skip p) x.2) ])
  ]

  solved_first : (j : ℕ) → j < suc (suc n) → solved_sum (head_at (entry v p) (entry v (skip p r))) (second_at (entry v p) (entry v (skip p r))) j ≡ delta p j
  solved_first j l =
      let e = head_at (entry v p) (entry v (skip p r)) in
      let f = second_at (entry v p) (entry v (skip p r)) in
      elim (skip_two_all j l) [
        | inl x ↦ ap (solved_sum e f) x ∙ sum_first e f ∙ block.left00 ∙ sym (ap (delta p) x ∙ delta_same p)
        | inr w ↦ elim w [
          | inl x ↦ ap (solved_sum e f) x ∙ sum_second e f ∙ block.left01 ∙ sym (ap (delta p) x ∙ delta_sym p (skip p r) ∙ delta_skipped p r)
          | inr x ↦ ap (solved_sum e f) x.2 ∙ sum_beside e f x.0 x.1 ∙ sym (ap (delta p) x.2 ∙ delta_sym p (skip_two p r x.0) ∙ beside_first p r x.0)
        ]
      ]

  solved_second : (j : ℕ) → j < suc (suc n) → solved_sum (head_other (entry v p) (entry v (skip p r))) (second_other (entry v p) (entry v (skip p r))) j ≡ delta (skip p r) j
  solved_second j l =
      let e = head_other (entry v p) (entry v (skip p r)) in
      let f = second_other (entry v p) (entry v (skip p r)) in
      elim (skip_two_all j l) [
        | inl x ↦ ap (solved_sum e f) x ∙ sum_first e f ∙ block.left10 ∙ sym (ap (delta (skip p r)) x ∙ delta_skipped p r)
        | inr w ↦ elim w [
          | inl x ↦ ap (solved_sum e f) x ∙ sum_second e f ∙ block.left11 ∙ sym (ap (delta (skip p r)) x ∙ delta_same (skip p r))
          | inr x ↦ ap (solved_sum e f) x.2 ∙ sum_beside e f x.0 x.1 ∙ sym (ap (delta (skip p r)) x.2 ∙ delta_sym (skip p r) (skip_two p r x.0) ∙ beside_second p r x.0)
        ]
      ]

  unit_beside : (s j : ℕ) → s < n → pos 0 *ℤ entry v j +ℤ (pos 0 *ℤ two_cell v p r 1 j +ℤ total n (λ k. delta (skip_two p r k) (skip_two p r s) *ℤ delta (skip_two p r k) j)) ≡ delta (skip_two p r s) j
  unit_beside s j l =
      let f = total_same n (λ k. delta (skip_two p r k) (skip_two p r s) *ℤ delta (skip_two p r k) j) (λ k. delta s k *ℤ delta (skip_two p r k) j)
      (λ k m. ap (λ x. x *ℤ delta (skip_two p r k) j) (beside_both p r k s ∙ delta_sym k s)) in
      let g = total_delta_left n s (λ k. delta (skip_two p r k) j) l in
      omega (arith, ints, f, g)

  pub two_left : (i j : ℕ) → i < suc (suc n) → j < suc (suc n) → total (suc (suc n)) (λ k. two_inverse v p r i k *ℤ two_cell v p r k j) ≡ delta i j
  two_left i j l m = elim (skip_two_all i l) [
    | inl e ↦ total_same (suc (suc n)) (λ k. two_inverse v p r i k *ℤ two_cell v p r k j) (λ k. two_solved v p r (head_at (entry v p) (entry v (skip p r))) (second_at (entry v p) (entry v (skip p r))) k *ℤ two_cell v p r k j)
        (λ k o. ap (λ x. x *ℤ two_cell v p r k j) (two_at v p r i k e)) ∙ solved_first j m ∙ ap (λ k. delta k j) (sym e)
    | inr w ↦ elim w [
      | inl e ↦ total_same (suc (suc n)) (λ k. two_inverse v p r i k *ℤ two_cell v p r k j) (λ k. two_solved v p r (head_other (entry v p) (entry v (skip p r))) (second_other (entry v p) (entry v (skip p r))) k *ℤ two_cell v p r k j)
          (λ k o. ap (λ x. x *ℤ two_cell v p r k j) (ap (λ i. two_inverse v p r i k) e ∙ two_at_other v p r (skip p r) k (skip_apart p r) refl)) ∙ solved_second j m ∙ ap (λ k. delta k j) (sym e)
      | inr x ↦ total_same (suc (suc n)) (λ k. two_inverse v p r i k *ℤ two_cell v p r k j) (λ k. two_unit p r (skip_two p r x.0) k *ℤ two_cell v p r k j)
          (λ k o. ap (λ y. y *ℤ two_cell v p r k j) (ap (λ i. two_inverse v p r i k) x.2 ∙ two_beside v p r (skip_two p r x.0) k (skip_apart p (skip r x.0)) (apart_second p r x.0))) ∙ unit_beside x.0 j x.1 ∙ ap (λ k. delta k j) (sym x.2)
    ]
  ]
