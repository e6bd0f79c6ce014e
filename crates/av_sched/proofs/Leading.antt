-- The least lead over the first points.
use Rattle.std.proofs.Common.{◌≡◌, ℕ, ◌+◌, ◌<◌, ◌≤◌, ℤ, ◌≤ℤ◌, List, [], length, get_or, sym, ap, subst, ◌∙◌, arith, ⊎_elim}
use Rattle.std.specs.Int.{int_min}
use Rattle.std.proofs.lemmas.Int.{ints, clamps, by_lt_z}
use Rattle.std.proofs.lemmas.Bool.{cases_eq}
use Rattle.av_affine.specs.declared.map.Map.{Map}
use Rattle.av_tree.specs.Points.{Point}
use Rattle.av_sched.specs.Leads.{lead, IsLeastLead}
use Rattle.av_base.proofs.Lists.{same_default}

pub record IsLeastSoFar (a b : Point) (m : Map) (points : List Point) (k : ℕ) (x : ℤ) : Type 0 where
  pub within : k ≤ length points
  pub below : (j : ℕ) (d : Point) → j < k → x ≤ℤ lead a b m (get_or points j d)
  pub taken : (j : ℕ) × (j < k) × ((d : Point) → lead a b m (get_or points j d) ≡ x)

-- the point at k, whatever the default is
lead_there : (a b : Point) (m : Map) (points : List Point) (k : ℕ) (p : Point) (y : ℤ) → k < length points → p ≡ get_or points k p → y ≡ lead a b m p → (d : Point) → lead a b m (get_or points k d) ≡ y
lead_there a b m points k p y l e f d = ap (lead a b m) (same_default points k d p l ∙ sym e) ∙ sym f

pub least_first : (a b : Point) (m : Map) (points : List Point) (p : Point) (x : ℤ) → 0 < length points → p ≡ get_or points 0 p → x ≡ lead a b m p → IsLeastSoFar a b m points 1 x
least_first a b m points p x l e f = record {
  within = omega (arith, l);
  below = λ j d h. let z : j ≡ 0 = omega (arith, h) in let q = lead_there a b m points 0 p x l e f d in subst (λ (i : ℕ). x ≤ℤ lead a b m (get_or points i d)) (sym z) (omega (arith, ints, q));
  taken = (0, omega arith, lead_there a b m points 0 p x l e f);
}

pub least_more : (a b : Point) (m : Map) (points : List Point) (k : ℕ) (x y : ℤ) (p : Point) → k < length points → p ≡ get_or points k p → y ≡ lead a b m p → IsLeastSoFar a b m points k x
    → IsLeastSoFar a b m points (k + 1) (int_min x y)
least_more a b m points k x y p l e f h = record {
  within = omega (arith, l);
  below = λ j d i. ⊎_elim
      (λ q. let here = lead_there a b m points k p y l e f d in subst (λ (n : ℕ). int_min x y ≤ℤ lead a b m (get_or points n d)) (sym q) (omega (arith, ints, clamps, here)))
      (λ n. let old = h.below j d (omega (arith, i, n)) in omega (arith, ints, clamps, old)) (cases_eq j k);
  taken = by_lt_z y x
      (λ less. (k, omega arith, (λ d. let here = lead_there a b m points k p y l e f d in omega (arith, ints, clamps, here, less))))
      (λ more. let t = h.taken in (t.0, (let u = t.1 in omega (arith, u)), (λ d. let here = t.2 d in omega (arith, ints, clamps, here, more))));
}

pub least_of_all : (a b : Point) (m : Map) (points : List Point) (k : ℕ) (x : ℤ) → length points ≤ k → IsLeastSoFar a b m points k x → IsLeastLead a b m points x
least_of_all a b m points k x l h = record {
  below = λ j d i. h.below j d (omega (arith, l, i));
  taken = (let t = h.taken in let w = h.within in let at : t.0 < length points = (let u = t.1 in omega (arith, u, w)) in (t.0, get_or points t.0 [], at, same_default points t.0 (get_or points t.0 []) [] at, t.2 []));
}
