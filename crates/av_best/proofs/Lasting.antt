-- The least number above the last cycles of nodes, one after another, and the offsets with which their first cycles are 0.
use Rattle.std.proofs.Common.{◌≡◌, ℕ, ◌+◌, ◌<◌, max, ℤ, pos, ◌+ℤ◌, ◌<ℤ◌, ◌⊎◌, inl, inr, ⊎_elim, List, [], ◌∷◌, ◌++◌, length, map, take, get_or, refl, sym, ap, subst, ◌∙◌, arith, length-append}
use Rattle.std.proofs.Math.IntN.{neg_ℤ}
use Rattle.std.proofs.lemmas.Int.{ints}
use Rattle.std.proofs.lemmas.Bool.{cases_eq, cases_lt}
use Rattle.av_sched.specs.Arcs.{at, AreSmall}
use Rattle.std.proofs.lemmas.List.{map-append}
use Rattle.av_flat.specs.declared.timed.Time.{Time}
use Rattle.av_sched.proofs.Listing.{get_push, get_last}
use Rattle.av_sched.proofs.Steps.{take_more}
use Rattle.av_base.proofs.Lists.{same_default}
use Rattle.av_best.specs.declared.span.PartSpan.{PartSpan}
use Rattle.av_best.specs.inner.Spans.{AreLows, AreSmallSpans, last_of, IsLeastAbove}

pub above_none : (off : List ℤ) (spans : List PartSpan) → IsLeastAbove off spans 0 0
above_none off spans = record { above = λ j d l. absurd (omega (arith, l)); reached = inl refl }

-- one node more, whose last cycle is below t
pub above_more : (off : List ℤ) (spans : List PartSpan) (j m t : ℕ) (o : ℤ) (span e : PartSpan) → j < length spans → span ≡ get_or spans j e → o ≡ at off j → ((o +ℤ span.high) <ℤ pos t) → ((t ≡ 0) ⊎ ((o +ℤ span.high) +ℤ pos 1 ≡ pos t))
    → IsLeastAbove off spans j m → IsLeastAbove off spans (j + 1) (max m t)
above_more off spans j m t o span e l is at_is below reached h = record {
  above = λ i d k. ⊎_elim
      (λ q.
      let s = here d in
      let own : last_of off spans j d <ℤ pos (max m t) = omega (arith, ints, below, s) in
      subst (λ (n : ℕ). last_of off spans n d <ℤ pos (max m t)) (sym q) own)
      (λ q. let b = h.above i d (omega (arith, k, q)) in omega (arith, ints, b))
      (cases_eq i j);
  reached = ⊎_elim
      (λ less. let eq : max m t ≡ t = omega (arith, less) in
      ⊎_elim (λ z. inl (eq ∙ z)) (λ r. inr (j, omega arith, λ d. let s = here d in omega (arith, ints, r, s, eq))) reached)
      (λ more. let eq : max m t ≡ m = omega (arith, more) in
      ⊎_elim (λ z. inl (eq ∙ z)) (λ r. inr (r.0, (let k = r.1 in omega (arith, k)), λ d. let s = r.2 d in omega (arith, ints, s, eq))) h.reached)
      (cases_lt m t);
}
  where
    here : (d : PartSpan) → last_of off spans j d ≡ o +ℤ span.high
    here d = let q : get_or spans j d ≡ span = same_default spans j d e l ∙ sym is in ap (λ (s : PartSpan). at off j +ℤ s.high) q ∙ ap (λ x. x +ℤ span.high) (sym at_is)

pub lows_none : (spans : List PartSpan) (off : List ℤ) → off ≡ [] → AreLows 0 spans off
lows_none spans off e = record { one_each = ap length e; each = λ j d l. absurd (omega (arith, l)) }

pub lows_more : (k : ℕ) (spans : List PartSpan) (off : List ℤ) (x : ℤ) (span e : PartSpan) → k < length spans → span ≡ get_or spans k e → x ≡ neg_ℤ span.low → AreLows k spans off → AreLows (k + 1) spans (off ++ x ∷ [])
lows_more k spans off x span e l is low h = record {
  one_each = (let a = length-append off (x ∷ []) in let z = h.one_each in omega (arith, a, z));
  each = λ j d m. ⊎_elim
      (λ q.
      let one = h.one_each in
      let a : at (off ++ x ∷ []) j ≡ x = ap (at (off ++ x ∷ [])) (q ∙ sym one) ∙ get_last off x (pos 0) in
      let b : get_or spans j d ≡ span = ap (λ (n : ℕ). get_or spans n d) q ∙ same_default spans k d e l ∙ sym is in
      a ∙ low ∙ ap (λ (s : PartSpan). neg_ℤ s.low) (sym b))
      (λ q.
      let i : j < k = omega (arith, m, q) in
      get_push off x (pos 0) j (let one = h.one_each in omega (arith, i, one)) ∙ h.each j d i)
      (cases_eq j k);
}

pub lows_small : (k : ℕ) (spans : List PartSpan) (off : List ℤ) (d : PartSpan) → AreSmallSpans k spans → AreLows k spans off → AreSmall 1073741824 off
lows_small k spans off d small h = λ j e l.
    let m : j < k = (let one = h.one_each in omega (arith, l, one)) in
    let a : at off j ≡ neg_ℤ (get_or spans j d).low = h.each j d m in
    let b = (small j d m).0 in
    let q : get_or off j e ≡ at off j = same_default off j e (pos 0) l in
    omega (arith, ints, a, b, q)

-- the offsets of the first times, and one more
pub offsets_more : (times : List Time) (k : ℕ) (t : Time) (offs : List ℤ) → k < length times → t ≡ get_or times k t → offs ≡ map (λ u. u.offset) (take k times) → offs ++ t.offset ∷ [] ≡ map (λ u. u.offset) (take (k + 1) times)
offsets_more times k t offs l is e = ap (λ xs. xs ++ t.offset ∷ []) e ∙ sym (map-append (λ (u : Time). u.offset) (take k times) (t ∷ [])) ∙ ap (map (λ (u : Time). u.offset)) (sym (take_more times k t t l is refl))
