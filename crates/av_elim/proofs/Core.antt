-- One index, abstractly: each row r has a factor (a r) of the index and a rest (b r).
use Rattle.std.proofs.Common.{◌≡◌, arith, ℤ, pos, ◌+ℤ◌, ◌-ℤ◌, ◌*ℤ◌, ◌≤ℤ◌, ◌<ℤ◌, neg_ℤ, ◌⊎◌, inl, inr, ⊎_elim, List, [], ◌∷◌}
use Rattle.std.proofs.lemmas.Int.{ints, by_lt_z}
use Rattle.std.specs.List.{AllByRecursion}
use Rattle.av_affine.proofs.Ring.{times_neg, neg_times}
use Rattle.av_affine.proofs.Order.{product_nonneg, over_trans}
use Rattle.av_base.proofs.Lists.{each_weaker}

pub both : {X : Type 0} (P Q R : X → Type 0) → ((x : X) → P x → Q x → R x) → (xs : List X) → AllByRecursion P xs → AllByRecursion Q xs → AllByRecursion R xs
both P Q R f [] h k = tt
both P Q R f (x ∷ xs) h k = (f x h.0 k.0, both P Q R f xs h.1 k.1)

module _ {X : Type 0} (a b : X → ℤ) where
  -- p bounds the index from below at least as much as r
  abbrev pub Above : X → X → Type 0
  Above p r = pos 0 <ℤ a r → pos 0 ≤ℤ (a p *ℤ b r -ℤ a r *ℤ b p)

  pub best : (Q : X → Type 0) (rows : List X) → AllByRecursion Q rows → AllByRecursion (λ r. a r ≤ℤ pos 0) rows ⊎ ((p : X) × Q p × (pos 0 <ℤ a p) × AllByRecursion (Above p) rows)
  best Q [] h = inl tt
  best Q (x ∷ rows) h = by_lt_z (pos 0) (a x)
      (λ up. ⊎_elim
      (λ none. inr (x, h.0, up, ((λ _. omega (arith, ints)), each_weaker (λ r. a r ≤ℤ pos 0) (Above x) (λ r low high. absurd (omega (arith, ints))) rows none)))
      (λ found.
      let p = found.0 in
      let low = found.2 in
      by_lt_z (a x *ℤ b p -ℤ a p *ℤ b x) (pos 0)
      (λ over. inr (p, found.1, low, ((λ _. omega (arith, ints)), found.3)))
      (λ under. inr (x, h.0, up, ((λ _. omega (arith, ints)), each_weaker (Above p) (Above x) (λ r f high. over_trans (a x) (b x) (a p) (b p) (a r) (b r) up low high under (f high)) rows found.3))))
      (best Q rows h.1))
      (λ low. ⊎_elim
      (λ none. inl (low, none))
      (λ found. inr (found.0, found.1, found.2, ((λ high. absurd (omega (arith, ints))), found.3)))
      (best Q rows h.1))

-- each two rows of opposite signs leave the rest room
abbrev pub Pairs : {X : Type 0} → (X → ℤ) → (X → ℤ) → List X → Type 0
Pairs a b rows = AllByRecursion (λ p. AllByRecursion (λ n. pos 0 <ℤ a p → a n <ℤ pos 0 → pos 0 ≤ℤ (a p *ℤ b n -ℤ a n *ℤ b p)) rows) rows

-- rows without the index hold
abbrev pub Flat : {X : Type 0} → (X → ℤ) → (X → ℤ) → List X → Type 0
Flat a b rows = AllByRecursion (λ r. a r ≡ pos 0 → pos 0 ≤ℤ b r) rows

by_sign : {P : Type 0} (x : ℤ) → (pos 0 <ℤ x → P) → (x ≡ pos 0 → P) → (x <ℤ pos 0 → P) → P
by_sign x f g h = by_lt_z (pos 0) x f (λ k. by_lt_z x (pos 0) h (λ l. g (omega (arith, ints))))

below_all : (an bn ar br : ℤ) → pos 0 <ℤ neg_ℤ an → ar ≤ℤ pos 0 → (ar ≡ pos 0 → pos 0 ≤ℤ br) → (pos 0 <ℤ neg_ℤ ar → pos 0 ≤ℤ (neg_ℤ an *ℤ br -ℤ neg_ℤ ar *ℤ bn)) → pos 0 ≤ℤ (ar *ℤ bn +ℤ neg_ℤ an *ℤ br)
below_all an bn ar br low least flat h = by_sign ar
    (λ up. absurd (omega (arith, ints)))
    (λ z. let k = product_nonneg (neg_ℤ an) br (omega (arith, ints)) (flat z) in rw z (omega (arith, ints, k)))
    (λ down. let k = h (omega (arith, ints)) in omega (arith, ints, neg_times bn ar, k))

above_all : (ap bp ar br : ℤ) → pos 0 <ℤ ap → (pos 0 <ℤ ap → ar <ℤ pos 0 → pos 0 ≤ℤ (ap *ℤ br -ℤ ar *ℤ bp)) → (ar ≡ pos 0 → pos 0 ≤ℤ br) → (pos 0 <ℤ ar → pos 0 ≤ℤ (ap *ℤ br -ℤ ar *ℤ bp)) → pos 0 ≤ℤ (ar *ℤ neg_ℤ bp +ℤ ap *ℤ br)
above_all ap bp ar br low room flat h = by_sign ar
    (λ up. let k = h up in omega (arith, ints, times_neg ar bp, k))
    (λ z. let k = product_nonneg ap br (omega (arith, ints)) (flat z) in rw z (omega (arith, ints, k)))
    (λ down. let k = room low down in omega (arith, ints, times_neg ar bp, k))

-- then a value t of the index exists, over a common denominator s
pub core : {X : Type 0} (a b : X → ℤ) (rows : List X) → Flat a b rows → Pairs a b rows → (s : ℤ) × (t : ℤ) × (pos 0 <ℤ s) × AllByRecursion (λ r. pos 0 ≤ℤ (a r *ℤ t +ℤ s *ℤ b r)) rows
core {X} a b rows flat pairs =
    let Room : X → Type 0 = λ p. AllByRecursion (λ n. pos 0 <ℤ a p → a n <ℤ pos 0 → pos 0 ≤ℤ (a p *ℤ b n -ℤ a n *ℤ b p)) rows in
    ⊎_elim
    (λ none. ⊎_elim
    (λ free. (
      pos 1,
      pos 0,
      omega (arith, ints),
      both (λ r. a r ≤ℤ pos 0) _ (λ r. pos 0 ≤ℤ (a r *ℤ pos 0 +ℤ pos 1 *ℤ b r)) (λ r x y. omega (arith, ints, y.0, y.1 (omega (arith, ints)))) rows none
          (both (λ r. neg_ℤ (a r) ≤ℤ pos 0) (λ r. a r ≡ pos 0 → pos 0 ≤ℤ b r) (λ r. (neg_ℤ (a r) ≤ℤ pos 0) × (a r ≡ pos 0 → pos 0 ≤ℤ b r)) (λ r x y. (x, y)) rows free flat),
    ))
    (λ found.
    let n = found.0 in (
      neg_ℤ (a n),
      b n,
      found.2,
      both (λ r. (a r ≤ℤ pos 0) × (a r ≡ pos 0 → pos 0 ≤ℤ b r)) (Above (λ r. neg_ℤ (a r)) b n) (λ r. pos 0 ≤ℤ (a r *ℤ b n +ℤ neg_ℤ (a n) *ℤ b r))
          (λ r x y. below_all (a n) (b n) (a r) (b r) found.2 x.0 x.1 y) rows
          (both (λ r. a r ≤ℤ pos 0) (λ r. a r ≡ pos 0 → pos 0 ≤ℤ b r) (λ r. (a r ≤ℤ pos 0) × (a r ≡ pos 0 → pos 0 ≤ℤ b r)) (λ r x y. (x, y)) rows none flat) found.3,
    ))
    (best (λ r. neg_ℤ (a r)) b (λ r. Unit {0}) rows (every rows)))
    (λ found.
    let p = found.0 in (
      a p,
      neg_ℤ (b p),
      found.2,
      both (λ r. (pos 0 <ℤ a p → a r <ℤ pos 0 → pos 0 ≤ℤ (a p *ℤ b r -ℤ a r *ℤ b p)) × (a r ≡ pos 0 → pos 0 ≤ℤ b r)) (Above a b p) (λ r. pos 0 ≤ℤ (a r *ℤ neg_ℤ (b p) +ℤ a p *ℤ b r))
          (λ r x y. above_all (a p) (b p) (a r) (b r) found.2 x.0 x.1 y) rows
          (both _ (λ r. a r ≡ pos 0 → pos 0 ≤ℤ b r) (λ r. (pos 0 <ℤ a p → a r <ℤ pos 0 → pos 0 ≤ℤ (a p *ℤ b r -ℤ a r *ℤ b p)) × (a r ≡ pos 0 → pos 0 ≤ℤ b r)) (λ r x y. (x, y)) rows found.1 flat) found.3,
    ))
    (best a b Room rows pairs)
  where
    every : (rows : List X) → AllByRecursion (λ (r : X). Unit {0}) rows
    every [] = tt
    every (x ∷ rows) = (tt, every rows)
