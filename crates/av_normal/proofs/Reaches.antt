-- What two boxes have in common, and sets without a point.
use Rattle.std.proofs.Common.{◌≡◌, ◌≤◌, ℤ, pos, ◌≤ℤ◌, List, [], ◌∷◌, length, get_or, subst, ⊎_elim}
use Rattle.std.specs.Int.RustNames.{unsigned_abs}
use Rattle.std.proofs.lemmas.List.Elements.{All-from_recursion}
use Rattle.av_affine.specs.Numbers.{AtMost}
use Rattle.av_poly.specs.Points.{Set, Has}
use Rattle.av_poly.specs.Rational.{HasNoBounds, entry_of}
use Rattle.av_poly.specs.Search.{IsBetween}
use Rattle.av_poly.proofs.Rationals.{point_is_rational, point_within_bounds}
use Rattle.av_normal.proofs.Boxes.{four_is}

pub no_point : (set : Set) → HasNoBounds set → (z : List ℤ) → Has set z → ⊥
no_point set n z h = ⊎_elim
    (λ none. none (pos 1, z, point_is_rational set z h))
    (λ g. g.no_whole (entry_of z g.gap) (point_within_bounds set z g.gap h))
    n

pub small_four : (a b c d : ℤ) → unsigned_abs a ≤ 4095 → unsigned_abs b ≤ 4095 → unsigned_abs c ≤ 4095 → unsigned_abs d ≤ 4095 → AtMost 4095 (a ∷ b ∷ c ∷ d ∷ [])
small_four a b c d p q r s = All-from_recursion (λ x. unsigned_abs x ≤ 4095) (a ∷ b ∷ c ∷ d ∷ []) (p, (q, (r, (s, tt))))

-- between a and b and between c and d, it is between l and h
pub record IsTight (a b c d l h : ℤ) : Type 0 where
  pub below : (x : ℤ) → a ≤ℤ x → c ≤ℤ x → x ≤ℤ d → l ≤ℤ x
  pub above : (x : ℤ) → x ≤ℤ b → c ≤ℤ x → x ≤ℤ d → x ≤ℤ h

-- the same of equal numbers
pub tight_same : (a b c d l h k m : ℤ) → k ≡ l → m ≡ h → IsTight a b c d l h → IsTight a b c d k m
tight_same a b c d l h k m e f t = rw (e, f) t

module _ (a b c d : List ℤ) (la : length a ≡ 4) (lb : length b ≡ 4) (lc : length c ≡ 4) (ld : length d ≡ 4) (l0 l1 l2 l3 h0 h1 h2 h3 : ℤ)
    (t0 : IsTight (get_or a 0 (pos 0)) (get_or b 0 (pos 0)) (get_or c 0 (pos 0)) (get_or d 0 (pos 0)) l0 h0)
    (t1 : IsTight (get_or a 1 (pos 0)) (get_or b 1 (pos 0)) (get_or c 1 (pos 0)) (get_or d 1 (pos 0)) l1 h1)
    (t2 : IsTight (get_or a 2 (pos 0)) (get_or b 2 (pos 0)) (get_or c 2 (pos 0)) (get_or d 2 (pos 0)) l2 h2)
    (t3 : IsTight (get_or a 3 (pos 0)) (get_or b 3 (pos 0)) (get_or c 3 (pos 0)) (get_or d 3 (pos 0)) l3 h3) where
  abbrev four : List ℤ → List ℤ
  four xs = get_or xs 0 (pos 0) ∷ get_or xs 1 (pos 0) ∷ get_or xs 2 (pos 0) ∷ get_or xs 3 (pos 0) ∷ []

  go : (z : List ℤ) → IsBetween (four a) (four b) z → IsBetween (four c) (four d) z → IsBetween (l0 ∷ l1 ∷ l2 ∷ l3 ∷ []) (h0 ∷ h1 ∷ h2 ∷ h3 ∷ []) z
  go [] p q = tt
  go (x ∷ []) p q = (t0.below x p.0 q.0 q.1, t0.above x p.1 q.0 q.1, tt)
  go (x ∷ y ∷ []) p q = (t0.below x p.0 q.0 q.1, t0.above x p.1 q.0 q.1, (t1.below y p.2.0 q.2.0 q.2.1, t1.above y p.2.1 q.2.0 q.2.1, tt))
  go (x ∷ y ∷ z ∷ []) p q = (t0.below x p.0 q.0 q.1, t0.above x p.1 q.0 q.1, (t1.below y p.2.0 q.2.0 q.2.1, t1.above y p.2.1 q.2.0 q.2.1, (t2.below z p.2.2.0 q.2.2.0 q.2.2.1, t2.above z p.2.2.1 q.2.2.0 q.2.2.1, tt)))
  go (x ∷ y ∷ z ∷ w ∷ []) p q = (t0.below x p.0 q.0 q.1, t0.above x p.1 q.0 q.1, (t1.below y p.2.0 q.2.0 q.2.1, t1.above y p.2.1 q.2.0 q.2.1, (t2.below z p.2.2.0 q.2.2.0 q.2.2.1, t2.above z p.2.2.1 q.2.2.0 q.2.2.1, (t3.below w p.2.2.2.0 q.2.2.2.0 q.2.2.2.1, t3.above w p.2.2.2.1 q.2.2.2.0 q.2.2.2.1, tt))))
  go (x ∷ y ∷ z ∷ w ∷ v ∷ zs) p q = absurd p.2.2.2.2

  pub between_both : (z : List ℤ) → IsBetween a b z → IsBetween c d z → IsBetween (l0 ∷ l1 ∷ l2 ∷ l3 ∷ []) (h0 ∷ h1 ∷ h2 ∷ h3 ∷ []) z
  between_both z p q =
      let p1 = subst (λ (xs : List ℤ). IsBetween xs b z) (four_is a la) p in
      let p2 = subst (λ (xs : List ℤ). IsBetween (four a) xs z) (four_is b lb) p1 in
      let q1 = subst (λ (xs : List ℤ). IsBetween xs d z) (four_is c lc) q in
      let q2 = subst (λ (xs : List ℤ). IsBetween (four c) xs z) (four_is d ld) q1 in
      go z p2 q2
