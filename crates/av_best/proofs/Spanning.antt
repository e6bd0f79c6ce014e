-- The points by which the linear parts of a node are judged, and spans over them.
use Rattle.std.proofs.Common.{◌≡◌, ℕ, ◌+◌, ◌<◌, ◌≤◌, ◌^◌, ℤ, ◌≤ℤ◌, true, IsTrue, Some, List, [], ◌∷◌, ◌++◌, length, take, get_or, refl, sym, ap, subst, ◌∙◌, arith, All, Any, unsigned_abs, ⊎_elim, length-append}
use Rattle.std.proofs.Math.IntN.{neg_ℤ}
use Rattle.std.specs.Prelude.{slice_get, slice_index_or}
use Rattle.std.specs.Int.{int_min, int_max}
use Rattle.std.proofs.lemmas.Int.{ints, clamps, by_lt_z}
use Rattle.std.proofs.lemmas.Bool.{cases_eq}
use Rattle.std.proofs.lemmas.List.Elements.{All-filter, All-weaker, filter_passes}
use Rattle.av_affine.specs.Numbers.{dot, AtMost}
use Rattle.av_tree.specs.Points.{Point}
use Rattle.av_flat.specs.Trees.{Variable, FlatSystem}
use Rattle.av_flat.specs.Points.{has}
use Rattle.av_flat.specs.Nodes.{is_node, nodes, IsComputation}
use Rattle.av_flat.specs.Chained.{IsChained, IsChainedVariable}
use Rattle.av_flat.proofs.Sets.{has_is}
use Rattle.av_flat.proofs.Bounded.{small_point}
use Rattle.av_depend.specs.Edges.{AreGenerators}
use Rattle.av_depend.proofs.Generators.{IsMidValued, dot_mid, little_listed}
use Rattle.av_flat.specs.Schedules.{IsLinearPart}
use Rattle.av_sched.specs.Offsets.{part}
use Rattle.av_sched.specs.Leads.{IsSmallPoint, IsSmallPart}
use Rattle.av_sched.specs.Parts.{AreParts}
use Rattle.av_sched.proofs.Starting.{node_has_point}
use Rattle.av_base.proofs.Lists.{all_at, some_is, same_default, there_is}
use Rattle.av_sched.proofs.Steps.{take_more}
use Rattle.av_sched.proofs.Listing.{get_push, get_last}
use Rattle.av_best.specs.declared.span.PartSpan.{PartSpan}
use Rattle.av_best.specs.inner.Spans.{IsSpanOver, IsSpanAt, ArePointsOf, AreSpansAt, AreSpansTo, AreSpanned, AreSmallSpans}

-- ---- points

module _ (s : FlatSystem) (n : ℕ) (v : Variable) (chained : IsChained s) (is : slice_get (nodes s) n ≡ Some v) where
  pub own_variable : IsChainedVariable s v
  own_variable = all_at (IsChainedVariable s) (nodes s) n v (All-filter is_node (IsChainedVariable s) s.variables chained.each) is

  pub is_node_there : is_node v ≡ true
  is_node_there = all_at (λ (w : Variable). is_node w ≡ true) (nodes s) n v (filter_passes is_node s.variables) is

  small_there : (z : Point) → IsTrue (has v.domain z) → (length z ≡ v.domain.dim) × AtMost 4095 z
  small_there z h = let own = (has_is v.domain z).0 h in (own.dimension, small_point v.domain own_variable.bounded z own)

  declared_there : (z : Point) → IsComputation s n z → IsTrue (has v.domain z)
  declared_there z i = let same : i.variable ≡ v = some_is i.variable v (sym i.is ∙ is) in subst (λ (w : Variable). IsTrue (has w.domain z)) same i.declared

  neg_mid : (a : List ℤ) → IsMidValued (λ z. neg_ℤ (dot a z))
  neg_mid a x y z h = let e = dot_mid a x y z h in omega (arith, ints, e)

  some_point : (points : List Point) → AreGenerators v.domain points → 0 < length points
  some_point [] are = absurd (node_has_point s v own_variable is_node_there
      (λ z h. let a = little_listed (dot []) v.domain 4095 v.domain.dim [] (dot_mid []) small_there are z ((has_is v.domain z).1 h) in let l = a.2 in omega (arith, l)))
  some_point (p ∷ points) are = omega arith

  pub points_there : (points : List Point) → AreGenerators v.domain points → ArePointsOf s n points
  points_there points are = record {
    some = some_point points are;
    each = λ k d l. record { variable = v; is = is; declared = (are.each k d l).is_point };
    least = λ a z i. little_listed (dot a) v.domain 4095 v.domain.dim points (dot_mid a) small_there are z (declared_there z i);
    greatest = λ a z i.
        let r = little_listed (λ p. neg_ℤ (dot a p)) v.domain 4095 v.domain.dim points (neg_mid a) small_there are z (declared_there z i) in
        (r.0, r.1, r.2, r.3, (let b = r.4 in omega (arith, ints, b)));
  }

  -- they are small, as the parts are
  pub points_small : (points : List Point) (m : ℕ) → m ≡ v.domain.dim → ArePointsOf s n points → All (IsSmallPoint m) points
  points_small points m e are = λ k d l.
      let t = small_there (get_or points k d) (declared_there (get_or points k d) (are.each k d l)) in
      record { size = t.0 ∙ sym e; entries = t.1 }

-- ---- spans

pub span_at : (s : FlatSystem) (n : ℕ) (points : List Point) (a : Point) (span : PartSpan) → ArePointsOf s n points → IsSpanOver points a span → IsSpanAt s n a span
span_at s n points a span are h =
    let (i, p, l, at, low) = h.low_taken in
    let (j, q, m, bt, high) = h.high_taken in
    record {
      low_below = λ z c.
          let (k, x, w, e, b) = are.least a z c in
          let t = subst (λ (y : Point). span.low ≤ℤ dot a y) e (h.low_below k x w) in
          omega (arith, ints, b, t);
      low_point = p;
      low_is = subst (IsComputation s n) at (are.each i p l);
      low_taken = low;
      high_above = λ z c.
          let (k, x, w, e, b) = are.greatest a z c in
          let t = subst (λ (y : Point). dot a y ≤ℤ span.high) e (h.high_above k x w) in
          omega (arith, ints, b, t);
      high_point = q;
      high_is = subst (IsComputation s n) bt (are.each j q m);
      high_taken = high;
      low_small = h.low_small;
      high_small = h.high_small;
    }

-- over the first points
pub record IsSpanSoFar (points : List Point) (a : Point) (k : ℕ) (low high : ℤ) : Type 0 where
  pub low_below : (i : ℕ) (d : Point) → i < k → low ≤ℤ dot a (get_or points i d)
  pub low_taken : Any (λ z. dot a z ≡ low) points
  pub high_above : (i : ℕ) (d : Point) → i < k → dot a (get_or points i d) ≤ℤ high
  pub high_taken : Any (λ z. dot a z ≡ high) points
  pub low_small : unsigned_abs low ≤ 2 ^ 29
  pub high_small : unsigned_abs high ≤ 2 ^ 29

pub span_first : (points : List Point) (a p : Point) (x : ℤ) → 0 < length points → p ≡ get_or points 0 p → x ≡ dot a p → unsigned_abs x ≤ 2 ^ 29 → IsSpanSoFar points a 1 x x
span_first points a p x l e f small =
    let here : (d : Point) → dot a (get_or points 0 d) ≡ x = λ d. ap (dot a) (same_default points 0 d p l ∙ sym e) ∙ sym f in
    let taken : Any (λ z. dot a z ≡ x) points = (0, get_or points 0 p, l, same_default points 0 (get_or points 0 p) p l, here p) in
    record {
      low_below = λ i d k. let q : i ≡ 0 = omega (arith, k) in let h = here d in subst (λ (n : ℕ). x ≤ℤ dot a (get_or points n d)) (sym q) (omega (arith, ints, h));
      low_taken = taken;
      high_above = λ i d k. let q : i ≡ 0 = omega (arith, k) in let h = here d in subst (λ (n : ℕ). dot a (get_or points n d) ≤ℤ x) (sym q) (omega (arith, ints, h));
      high_taken = taken;
      low_small = small;
      high_small = small;
    }

pub span_more : (points : List Point) (a : Point) (k : ℕ) (low high x : ℤ) (p : Point) → k < length points → p ≡ get_or points k p → x ≡ dot a p → unsigned_abs x ≤ 2 ^ 29 → IsSpanSoFar points a k low high → IsSpanSoFar points a (k + 1) (int_min low x) (int_max high x)
span_more points a k low high x p l e f small h =
    let here : (d : Point) → dot a (get_or points k d) ≡ x = λ d. ap (dot a) (same_default points k d p l ∙ sym e) ∙ sym f in
    record {
      low_below = λ i d m. ⊎_elim
          (λ q. let g = here d in subst (λ (n : ℕ). int_min low x ≤ℤ dot a (get_or points n d)) (sym q) (omega (arith, ints, clamps, g)))
          (λ q. let b = h.low_below i d (omega (arith, m, q)) in omega (arith, ints, clamps, b)) (cases_eq i k);
      low_taken = by_lt_z x low
          (λ less. (k, get_or points k p, l, same_default points k (get_or points k p) p l, (let g = here p in omega (arith, ints, clamps, g, less))))
          (λ more. let t = h.low_taken in (t.0, t.1, t.2, t.3, (let g = t.4 in omega (arith, ints, clamps, g, more))));
      high_above = λ i d m. ⊎_elim
          (λ q. let g = here d in subst (λ (n : ℕ). dot a (get_or points n d) ≤ℤ int_max high x) (sym q) (omega (arith, ints, clamps, g)))
          (λ q. let b = h.high_above i d (omega (arith, m, q)) in omega (arith, ints, clamps, b)) (cases_eq i k);
      high_taken = by_lt_z high x
          (λ less. (k, get_or points k p, l, same_default points k (get_or points k p) p l, (let g = here p in omega (arith, ints, clamps, g, less))))
          (λ more. let t = h.high_taken in (t.0, t.1, t.2, t.3, (let g = t.4 in omega (arith, ints, clamps, g, more))));
      low_small = (let s = h.low_small in omega (arith, ints, clamps, s, small));
      high_small = (let s = h.high_small in omega (arith, ints, clamps, s, small));
    }

pub span_of_all : (points : List Point) (a : Point) (k : ℕ) (span : PartSpan) → length points ≤ k → IsSpanSoFar points a k span.low span.high → IsSpanOver points a span
span_of_all points a k span over h = record {
  low_below = λ i d l. h.low_below i d (omega (arith, l, over));
  low_taken = h.low_taken;
  high_above = λ i d l. h.high_above i d (omega (arith, l, over));
  high_taken = h.high_taken;
  low_small = h.low_small;
  high_small = h.high_small;
}

-- ---- lists of spans

module _ (s : FlatSystem) where
  pub spans_none : (n : ℕ) → AreSpansAt s n [] []
  spans_none n = record { one_each = refl; each = λ i d l. absurd (omega (arith, l)) }

  pub spans_more : (n i : ℕ) (parts : List Point) (spans : List PartSpan) (a : Point) (span : PartSpan) → i < length parts → a ≡ get_or parts i a → IsSpanAt s n a span → AreSpansAt s n (take i parts) spans → AreSpansAt s n (take (i + 1) parts) (spans ++ span ∷ [])
  spans_more n i parts spans a span l is own h = subst (λ (xs : List Point). AreSpansAt s n xs (spans ++ span ∷ [])) (sym (take_more parts i a a l is refl)) (record {
    one_each = (let x = length-append spans (span ∷ []) in let y = length-append (take i parts) (a ∷ []) in let z = h.one_each in omega (arith, x, y, z));
    each = λ j d m. ⊎_elim
        (λ q.
        let q' : j ≡ length spans = q ∙ sym h.one_each in
        let x : slice_index_or (take i parts ++ a ∷ []) j [] ≡ a = ap (λ k. slice_index_or (take i parts ++ a ∷ []) k []) q ∙ get_last (take i parts) a [] in
        let y : slice_index_or (spans ++ span ∷ []) j d ≡ span = ap (λ k. slice_index_or (spans ++ span ∷ []) k d) q' ∙ get_last spans span d in
        rw (x, y) own)
        (λ q.
        let b : j < length (take i parts) = (let y = length-append (take i parts) (a ∷ []) in omega (arith, m, q, y)) in
        let b' : j < length spans = (let z = h.one_each in omega (arith, b, z)) in
        rw (get_push (take i parts) a [] j b, get_push spans span d j b') (h.each j d b))
        (cases_eq j (length (take i parts)));
  })

  pub lists_spanned : (k : ℕ) (lists : List (List Point)) (spans : List (List PartSpan)) (list : List Point) (new : List PartSpan) → k < length lists → list ≡ slice_index_or lists k list → AreSpansAt s k list new → AreSpansTo s k lists spans
      → AreSpansTo s (k + 1) lists (spans ++ new ∷ [])
  lists_spanned k lists spans list new l is own h = record {
    one_each = (let x = length-append spans (new ∷ []) in let z = h.one_each in omega (arith, x, z));
    each = λ j m. ⊎_elim
        (λ q.
        let x : slice_index_or (spans ++ new ∷ []) j [] ≡ new = ap (λ k. slice_index_or (spans ++ new ∷ []) k []) (q ∙ sym h.one_each) ∙ get_last spans new [] in
        let y : list ≡ slice_index_or lists j [] = is ∙ same_default lists k list [] l ∙ ap (λ i. slice_index_or lists i []) (sym q) in
        subst (AreSpansAt s j (slice_index_or lists j [])) (sym x) (subst (λ (xs : List Point). AreSpansAt s j xs new) y (subst (λ (i : ℕ). AreSpansAt s i list new) (sym q) own)))
        (λ q. let b : j < k = omega (arith, m, q) in
        subst (AreSpansAt s j (slice_index_or lists j [])) (sym (get_push spans new [] j (let z = h.one_each in omega (arith, b, z)))) (h.each j b))
        (cases_eq j k);
  }

  pub span_there : (n : ℕ) (list items : List Point) (own spans : List PartSpan) (i : ℕ) (p v : Point) → AreSpansAt s n list own → items ≡ list → spans ≡ own → i < length items → p ≡ get_or items i p → v ≡ p → (d : PartSpan) → IsSpanAt s n v (get_or spans i d)
  span_there n list items own spans i p v h e f l is same d =
      let l' : i < length list = subst (λ (xs : List Point). i < length xs) e l in
      let t = h.each i d l' in
      let at : v ≡ slice_index_or list i [] = same ∙ is ∙ same_default items i p [] l ∙ ap (λ xs. slice_index_or xs i []) e in
      subst (λ (xs : List PartSpan). IsSpanAt s n v (get_or xs i d)) (sym f) (subst (λ (a : Point). IsSpanAt s n a (slice_index_or own i d)) (sym at) t)

-- one node more
pub spanned_push : (s : FlatSystem) (k : ℕ) (linear : List Point) (spans : List PartSpan) (span : PartSpan) → length spans ≡ k → IsSpanAt s k (part linear k) span → AreSpanned s k linear spans → AreSpanned s (k + 1) linear (spans ++ span ∷ [])
spanned_push s k linear spans span many own h = record {
  within = (let x = length-append spans (span ∷ []) in omega (arith, x, many));
  each = λ j d m. ⊎_elim
      (λ q.
      let at : get_or (spans ++ span ∷ []) j d ≡ span = ap (λ (n : ℕ). get_or (spans ++ span ∷ []) n d) (q ∙ sym many) ∙ get_last spans span d in
      subst (λ (t : PartSpan). IsSpanAt s j (part linear j) t) (sym at) (subst (λ (n : ℕ). IsSpanAt s n (part linear n) span) (sym q) own))
      (λ q.
      let l : j < k = omega (arith, m, q) in
      subst (λ (t : PartSpan). IsSpanAt s j (part linear j) t) (sym (get_push spans span d j (omega (arith, l, many)))) (h.each j d l))
      (cases_eq j k);
}

-- ---- small numbers

pub small_spans : (s : FlatSystem) (k : ℕ) (linear : List Point) (spans : List PartSpan) → AreSpanned s k linear spans → AreSmallSpans k spans
small_spans s k linear spans h = λ j d l. ((h.each j d l).low_small, (h.each j d l).high_small)

pub part_small : (s : FlatSystem) (c n : ℕ) (v : Variable) (a : Point) → IsChained s → c ≤ 4 → slice_get (nodes s) n ≡ Some v → IsLinearPart c v.domain.dim a → IsSmallPart (length a) a
part_small s c n v a chained wide is p =
    let own = own_variable s n v chained is in
    let size = p.size in
    let few = own.indices in
    record { size = refl; few = omega (arith, size, few); entries = All-weaker (λ x. unsigned_abs x ≤ c) (λ x. unsigned_abs x ≤ 4) (λ x h. omega (arith, h, wide)) a p.entries }

module _ (s : FlatSystem) (c n : ℕ) (parts : List Point) (chained : IsChained s) (wide : c ≤ 4) (within : n < length (nodes s)) (are : AreParts s c n parts) where
  pub parts_small : All (λ a. IsSmallPart (length a) a) parts
  parts_small = λ k d l. let v = there_is (nodes s) n within in part_small s c n v.0 (get_or parts k d) chained wide v.1 (are.valid v.0 v.1 k d l)

  pub points_fit : (points : List Point) → ArePointsOf s n points → All (λ a. All (IsSmallPoint (length a)) points) parts
  points_fit points h = λ k d l.
      let v = there_is (nodes s) n within in
      points_small s n v.0 chained v.1 points (length (get_or parts k d)) (are.valid v.0 v.1 k d l).size h
