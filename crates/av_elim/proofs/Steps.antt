-- The rows without index k are the projection.
use Rattle.std.proofs.Common.{◌≡◌, ℕ, ◌<◌, arith, ℤ, pos, ◌+ℤ◌, ◌-ℤ◌, ◌*ℤ◌, ◌≤ℤ◌, ◌<ℤ◌, neg_ℤ, List, [], ◌∷◌, ◌++◌, length, get_or, refl, cond, Bool, true, false, int_lt}
use Rattle.std.specs.Ordering.{int_eq}
use Rattle.std.proofs.Math.ListN.{set}
use Rattle.std.proofs.lemmas.Int.{ints}
use Rattle.std.specs.List.{AllByRecursion}
use Rattle.av_affine.proofs.Ring.{ring, cube}
use Rattle.av_affine.proofs.Order.{product_nonneg}
use Rattle.av_elim.proofs.Core.{Flat}
use Rattle.av_elim.proofs.Lift.{complete, dot_combine, dot_at}
use Rattle.av_affine.specs.Numbers.{dot}
use Rattle.av_poly.specs.Rational.{Satisfies}
use Rattle.av_elim.specs.inner.Rows.{factor, Projects, StandsFor}
use Rattle.av_elim.specs.inner.Step.{pairs_of, all_pairs, flats, combination, eliminated}

pub holds_append : (xs ys : List (List ℤ)) (v : List ℤ) → Satisfies xs v → Satisfies ys v → Satisfies (xs ++ ys) v
holds_append [] ys v h k = k
holds_append (x ∷ xs) ys v h k = (h.0, holds_append xs ys v h.1 k)

pub holds_left : (xs ys : List (List ℤ)) (v : List ℤ) → Satisfies (xs ++ ys) v → Satisfies xs v
holds_left [] ys v h = tt
holds_left (x ∷ xs) ys v h = (h.0, holds_left xs ys v h.1)

pub holds_right : (xs ys : List (List ℤ)) (v : List ℤ) → Satisfies (xs ++ ys) v → Satisfies ys v
holds_right [] ys v h = h
holds_right (x ∷ xs) ys v h = holds_right xs ys v h.1

-- a test, with what it says in each case
pub split : (P : Bool → Type 0) (b : Bool) → (b ≡ true → P true) → (b ≡ false → P false) → P b
split P b f g = by b refl
  where
    by : (t : Bool) → b ≡ t → P t
    by true e = f e
    by false e = g e

-- ---- what holds of the rows holds of those without k
kept_flats : (k : ℕ) (rows : List (List ℤ)) (v : List ℤ) → Satisfies rows v → Satisfies (flats k rows) v
kept_flats k [] v h = tt
kept_flats k (r ∷ rows) v h = split (λ t. Satisfies (cond t (r ∷ flats k rows) (flats k rows)) v) (int_eq (factor k r) (pos 0))
    (λ e. (h.0, kept_flats k rows v h.1))
    (λ e. kept_flats k rows v h.1)

kept_pairs : (k : ℕ) (p : List ℤ) (rows : List (List ℤ)) (v : List ℤ) → pos 0 <ℤ factor k p → pos 0 ≤ℤ dot p v → Satisfies rows v → Satisfies (pairs_of k p rows) v
kept_pairs k p [] v low hp h = tt
kept_pairs k p (n ∷ rows) v low hp h = split (λ t. Satisfies (cond t (combination k p n ∷ pairs_of k p rows) (pairs_of k p rows)) v) (int_lt (factor k n) (pos 0))
    (λ e. (pair_kept k p n v low (omega (arith, ints)) hp h.0, kept_pairs k p rows v low hp h.1))
    (λ e. kept_pairs k p rows v low hp h.1)
  where
    pair_kept : (k : ℕ) (p n v : List ℤ) → pos 0 <ℤ factor k p → factor k n <ℤ pos 0 → pos 0 ≤ℤ dot p v → pos 0 ≤ℤ dot n v → pos 0 ≤ℤ dot (combination k p n) v
    pair_kept k p n v low high hp hn =
        let x = product_nonneg (factor k p) (dot n v) (omega (arith, ints)) hn in
        let y = product_nonneg (neg_ℤ (factor k n)) (dot p v) (omega (arith, ints)) hp in
        rw dot_combine (omega (arith, ints, x, y))

kept_all : (k : ℕ) (ps rows : List (List ℤ)) (v : List ℤ) → Satisfies ps v → Satisfies rows v → Satisfies (all_pairs k ps rows) v
kept_all k [] rows v hp h = tt
kept_all k (p ∷ ps) rows v hp h = split (λ t. Satisfies (cond t (pairs_of k p rows ++ all_pairs k ps rows) (all_pairs k ps rows)) v) (int_lt (pos 0) (factor k p))
    (λ e. holds_append (pairs_of k p rows) (all_pairs k ps rows) v (kept_pairs k p rows v (omega (arith, ints)) hp.0 h) (kept_all k ps rows v hp.1 h))
    (λ e. kept_all k ps rows v hp.1 h)

-- ---- and the other way
back_flats : (k : ℕ) (rows : List (List ℤ)) (v : List ℤ) → k < length v → Satisfies (flats k rows) v → Flat (factor k) (λ r. dot r (set v k (pos 0))) rows
back_flats k [] v i h = tt
back_flats k (r ∷ rows) v i h = split (λ t. Satisfies (cond t (r ∷ flats k rows) (flats k rows)) v → Flat (factor k) (λ r. dot r (set v k (pos 0))) (r ∷ rows)) (int_eq (factor k r) (pos 0))
    (λ e h. ((λ z. flat r z h.0), back_flats k rows v i h.1))
    (λ e h. ((λ z. absurd (grind (arith, ints))), back_flats k rows v i h)) h
  where
    flat : (r : List ℤ) → factor k r ≡ pos 0 → pos 0 ≤ℤ dot r v → pos 0 ≤ℤ dot r (set v k (pos 0))
    flat r z h = let e = rw z at (dot_at r v k i) in omega (arith, ints, h, e)

room : (k : ℕ) (p n v : List ℤ) → k < length v → pos 0 ≤ℤ dot (combination k p n) v → pos 0 ≤ℤ (factor k p *ℤ dot n (set v k (pos 0)) -ℤ factor k n *ℤ dot p (set v k (pos 0)))
room k p n v i h = plain (factor k p) (factor k n) (get_or v k (pos 0)) (dot n (set v k (pos 0))) (dot p (set v k (pos 0))) (dot n v) (dot p v) (dot_at n v k i) (dot_at p v k i) (rw dot_combine at h)
  where
    plain : (a b t x y dn dp : ℤ) → dn ≡ b *ℤ t +ℤ x → dp ≡ a *ℤ t +ℤ y → pos 0 ≤ℤ (a *ℤ dn +ℤ neg_ℤ b *ℤ dp) → pos 0 ≤ℤ (a *ℤ x -ℤ b *ℤ y)
    plain a b t x y dn dp e f h =
        let g = rw (e, f) at h in
        let i = simp ring at g in
        omega (arith, ints, cube, i)

back_pairs : (k : ℕ) (p : List ℤ) (rows : List (List ℤ)) (v : List ℤ) → k < length v → Satisfies (pairs_of k p rows) v
    → AllByRecursion (λ n. pos 0 <ℤ factor k p → factor k n <ℤ pos 0 → pos 0 ≤ℤ (factor k p *ℤ dot n (set v k (pos 0)) -ℤ factor k n *ℤ dot p (set v k (pos 0)))) rows
back_pairs k p [] v i h = tt
back_pairs k p (n ∷ rows) v i h = split (λ t. Satisfies (cond t (combination k p n ∷ pairs_of k p rows) (pairs_of k p rows)) v → AllByRecursion (λ n. pos 0 <ℤ factor k p → factor k n <ℤ pos 0 → pos 0 ≤ℤ (factor k p *ℤ dot n (set v k (pos 0)) -ℤ factor k n *ℤ dot p (set v k (pos 0)))) (n ∷ rows)) (int_lt (factor k n) (pos 0))
    (λ e h. ((λ low high. room k p n v i h.0), back_pairs k p rows v i h.1))
    (λ e h. ((λ low high. absurd (omega (arith, ints))), back_pairs k p rows v i h)) h

no_room : (k : ℕ) (p : List ℤ) (rows : List (List ℤ)) (v : List ℤ) → factor k p ≤ℤ pos 0
    → AllByRecursion (λ n. pos 0 <ℤ factor k p → factor k n <ℤ pos 0 → pos 0 ≤ℤ (factor k p *ℤ dot n (set v k (pos 0)) -ℤ factor k n *ℤ dot p (set v k (pos 0)))) rows
no_room k p [] v e = tt
no_room k p (n ∷ rows) v e = ((λ low high. absurd (omega (arith, ints))), no_room k p rows v e)

back_all : (k : ℕ) (ps rows : List (List ℤ)) (v : List ℤ) → k < length v → Satisfies (all_pairs k ps rows) v
    → AllByRecursion (λ p. AllByRecursion (λ n. pos 0 <ℤ factor k p → factor k n <ℤ pos 0 → pos 0 ≤ℤ (factor k p *ℤ dot n (set v k (pos 0)) -ℤ factor k n *ℤ dot p (set v k (pos 0)))) rows) ps
back_all k [] rows v i h = tt
back_all k (p ∷ ps) rows v i h = split (λ t. Satisfies (cond t (pairs_of k p rows ++ all_pairs k ps rows) (all_pairs k ps rows)) v
    → AllByRecursion (λ p. AllByRecursion (λ n. pos 0 <ℤ factor k p → factor k n <ℤ pos 0 → pos 0 ≤ℤ (factor k p *ℤ dot n (set v k (pos 0)) -ℤ factor k n *ℤ dot p (set v k (pos 0)))) rows) (p ∷ ps)) (int_lt (pos 0) (factor k p))
    (λ e h. (back_pairs k p rows v i (holds_left (pairs_of k p rows) (all_pairs k ps rows) v h), back_all k ps rows v i (holds_right (pairs_of k p rows) (all_pairs k ps rows) v h)))
    (λ e h. (no_room k p rows v (omega (arith, ints)), back_all k ps rows v i h)) h

pub projects : (k : ℕ) (rows : List (List ℤ)) → Projects k rows (eliminated k rows)
projects k rows = record {
  kept = λ v o h. holds_append (flats k rows) (all_pairs k rows rows) v (kept_flats k rows v h) (kept_all k rows rows v h h);
  back = λ v o i h. complete rows v k i (back_flats k rows v i (holds_left (flats k rows) (all_pairs k rows rows) v h)) (back_all k rows rows v i (holds_right (flats k rows) (all_pairs k rows rows) v h));
}

-- so do rows that stand for them
pub projects_by : (k : ℕ) (rows out : List (List ℤ)) → StandsFor (eliminated k rows) out → Projects k rows out
projects_by k rows out s = record {
  kept = λ v o h. s.kept v o ((projects k rows).kept v o h);
  back = λ v o i h. (projects k rows).back v o i (s.back v o h);
}
