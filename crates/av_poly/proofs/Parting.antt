-- The parts of what a set leaves, one more for each row.
use Rattle.std.proofs.Common.{◌≡◌, ℕ, ◌≤◌, ◌<◌, ◌+◌, ◌↔◌, ◌⊎◌, inl, inr, arith, ℤ, pos, neg_ℤ, ◌-ℤ◌, List, [], ◌∷◌, ◌++◌, length, length-append, append_assoc, get_or, take, map, refl, sym, ◌∙◌, ap, subst}
use Rattle.std.specs.List.{Any, All}
use Rattle.std.proofs.lemmas.Int.{ints, by_lt_z}
use Rattle.std.proofs.lemmas.List.Elements.{Contains-get_or, All-nil, All-push, All-map, All-weaker}
use Rattle.std.proofs.lemmas.List.Quantifiers.{all_pairs_push}
use Rattle.av_affine.specs.declared.form.Form.{Form}
use Rattle.std.specs.Int.RustNames.{unsigned_abs}
use Rattle.av_affine.specs.Numbers.{dot, AtMost}
use Rattle.av_affine.specs.Forms.{value_at}
use Rattle.av_affine.proofs.Ring.{neg_times}
use Rattle.std.proofs.lemmas.List.{take_more}
use Rattle.av_poly.specs.Points.{Set, Has, Holds, HoldsAt, IsSmall}
use Rattle.av_poly.specs.Parts.{AreDisjoint}
use Rattle.av_poly.specs.inner.Parts.{AreParts}
use Rattle.av_base.proofs.Anys.{any_before, any_last, any_cases}
use Rattle.av_poly.proofs.Membership.{holds_append, holds_first, holds_last}

-- ---- the complement of a row

dot_neg : (xs z : List ℤ) → dot (map (λ x. pos 0 -ℤ x) xs) z ≡ neg_ℤ (dot xs z)
dot_neg [] z = refl
dot_neg (x ∷ xs) [] = refl
dot_neg (x ∷ xs) (y ∷ z) =
    let n : pos 0 -ℤ x ≡ neg_ℤ x = omega (arith, ints) in
    let e = neg_times y x in
    let f = dot_neg xs z in
    rw n (omega (arith, ints, e, f))

pub negated : (r : List ℤ) → length r ≡ 4
    → (pos 0 -ℤ get_or r 0 (pos 0)) ∷ (pos 0 -ℤ get_or r 1 (pos 0)) ∷ (pos 0 -ℤ get_or r 2 (pos 0)) ∷ (pos 0 -ℤ get_or r 3 (pos 0)) ∷ [] ≡ map (λ x. pos 0 -ℤ x) r
negated [] h = absurd (omega arith)
negated (x ∷ []) h = absurd (omega arith)
negated (x ∷ y ∷ []) h = absurd (omega arith)
negated (x ∷ y ∷ z ∷ []) h = absurd (omega arith)
negated (x ∷ y ∷ z ∷ w ∷ []) h = refl
negated (x ∷ y ∷ z ∷ w ∷ v ∷ r) h = absurd (omega arith)

pub five : {a b d e a' b' d' e' : ℤ} → a ≡ a' → b ≡ b' → d ≡ d' → e ≡ e' → a ∷ b ∷ d ∷ e ∷ [] ≡ a' ∷ b' ∷ d' ∷ e' ∷ []
five p q r s = cc

pub negated_most : (limit : ℕ) (xs : List ℤ) → AtMost limit xs → AtMost limit (map (λ x. pos 0 -ℤ x) xs)
negated_most limit xs h = All-map (λ x. unsigned_abs x ≤ limit) (λ x. pos 0 -ℤ x) xs (All-weaker (λ x. unsigned_abs x ≤ limit) (λ x. unsigned_abs (pos 0 -ℤ x) ≤ limit) (λ x k. omega (arith, ints, k)) xs h)

pub complement_points : (row other : Form) (z : List ℤ) → other.coef ≡ map (λ x. pos 0 -ℤ x) row.coef → other.constant ≡ pos 0 -ℤ row.constant -ℤ pos 1
    → HoldsAt other z ↔ (HoldsAt row z → ⊥)
complement_points row other z e f =
    let d : dot other.coef z ≡ neg_ℤ (dot row.coef z) = ap (λ xs. dot xs z) e ∙ dot_neg row.coef z in
    ((λ h k. omega (arith, ints, d, f, h, k)), (λ h. by_lt_z (value_at row z) (pos 0) (λ l. omega (arith, ints, d, f, l)) (λ l. absurd (h l))))

-- rows with the complement of one more
pub part_points : (part : Set) (dim : ℕ) (kept : List Form) (row other : Form) (z : List ℤ) → part.dim ≡ dim → part.rows ≡ kept ++ other ∷ [] → HoldsAt other z ↔ (HoldsAt row z → ⊥)
    → Has part z ↔ ((length z ≡ dim) × Holds kept z × (HoldsAt row z → ⊥))
part_points part dim kept row other z d r o = (
  (λ h.
      let k = subst (λ (rows : List Form). Holds rows z) r h.holds in
      (h.dimension ∙ d, holds_first kept (other ∷ []) z k, o.0 (holds_last kept (other ∷ []) z k).0)),
  (λ h. record {
    dimension = h.0 ∙ sym d;
    holds = subst (λ (rows : List Form). Holds rows z) (sym r) (holds_append kept (other ∷ []) z h.1 (o.1 h.2, tt));
  }),
)

-- ---- one more part

holds_or_not : (rows : List Form) (z : List ℤ) → Holds rows z ⊎ (Holds rows z → ⊥)
holds_or_not [] z = inl tt
holds_or_not (row ∷ rows) z =
    by_lt_z (value_at row z) (pos 0) (λ l. inr (λ h. let k = h.0 in omega (arith, ints, l, k)))
    (λ l. elim (holds_or_not rows z) [ inl h ↦ inl (l, h) | inr h ↦ inr (λ k. h k.1) ])

pub no_parts : (dim : ℕ) (within : List Form) → AreParts dim within [] []
no_parts dim within = record {
  points = λ z. ((λ w. absurd (none z w)), (λ h. absurd (h.2 tt)));
  disjoint = λ i j d l m. absurd (omega arith);
  dims = All-nil _;
  few = omega arith;
}
  where
    none : (z : List ℤ) → Any (λ (part : Set). Has part z) [] → ⊥
    none z (k, s, l, e, p) = omega (arith, l)

pub more_parts : (dim : ℕ) (within before : List Form) (row : Form) (parts : List Set) (part : Set) → AreParts dim within before parts → part.dim ≡ dim
    → ((z : List ℤ) → Has part z ↔ ((length z ≡ dim) × Holds (within ++ before) z × (HoldsAt row z → ⊥)))
    → AreParts dim within (before ++ row ∷ []) (parts ++ part ∷ [])
more_parts dim within before row parts part s d p = record {
  points = λ z. (outward z, inward z);
  disjoint = all_pairs_push AreDisjoint parts part s.disjoint (λ k e l z h i. (((s.points z).0 (member k e l z h)).2 (holds_last within before z ((p z).0 i).1)));
  dims = All-push (λ part. part.dim ≡ dim) parts part s.dims d;
  few = let f = s.few in omega (arith, f, length-append parts (part ∷ []), length-append before (row ∷ []));
}
  where
    member : (k : ℕ) (e : Set) → k < length parts → (z : List ℤ) → Has (get_or parts k e) z → Any (λ (part : Set). Has part z) parts
    member k e l z h = let w = Contains-get_or parts k e l in (w.0, get_or parts k e, w.1, w.2, h)

    outward : (z : List ℤ) → Any (λ (part : Set). Has part z) (parts ++ part ∷ []) → (length z ≡ dim) × Holds within z × (Holds (before ++ row ∷ []) z → ⊥)
    outward z w = elim (any_cases (λ (part : Set). Has part z) parts part w) [
      | inl v ↦ (let h = (s.points z).0 v in (h.0, h.1, (λ k. h.2 (holds_first before (row ∷ []) z k))))
      | inr v ↦ (let h = (p z).0 v in (h.0, holds_first within before z h.1, (λ k. h.2 (holds_last before (row ∷ []) z k).0)))
    ]

    inward : (z : List ℤ) → (length z ≡ dim) × Holds within z × (Holds (before ++ row ∷ []) z → ⊥) → Any (λ (part : Set). Has part z) (parts ++ part ∷ [])
    inward z h = elim (holds_or_not before z) [
      | inl k ↦ any_last (λ (part : Set). Has part z) parts part ((p z).1 (h.0, holds_append within before z h.1 k, (λ r. h.2 (holds_append before (row ∷ []) z k (r, tt)))))
      | inr k ↦ any_before (λ (part : Set). Has part z) parts part ((s.points z).1 (h.0, h.1, k))
    ]

-- ---- the next row of a list

pub kept_more : (new kept within rows : List Form) (i : ℕ) (d : Form) → i < length rows → new ≡ kept ++ get_or rows i d ∷ [] → kept ≡ within ++ take i rows → new ≡ within ++ take (i + 1) rows
kept_more new kept within rows i d l e k = e ∙ ap (λ ks. ks ++ get_or rows i d ∷ []) k ∙ append_assoc within (take i rows) (get_or rows i d ∷ []) ∙ ap (λ ks. within ++ ks) (sym (take_more rows i d l))

pub small_more : (new kept rows : List Form) (i : ℕ) (d : Form) → i < length rows → new ≡ kept ++ get_or rows i d ∷ [] → All IsSmall kept → All IsSmall rows → All IsSmall new
small_more new kept rows i d l e k h = subst (All IsSmall) (sym e) (All-push IsSmall kept (get_or rows i d) k (h i d l))

pub parts_more : (dim : ℕ) (within rows kept : List Form) (i : ℕ) (d : Form) (parts new : List Set) (part : Set) → i < length rows → kept ≡ within ++ take i rows → AreParts dim within (take i rows) parts
    → part.dim ≡ dim → ((z : List ℤ) → Has part z ↔ ((length z ≡ dim) × Holds kept z × (HoldsAt (get_or rows i d) z → ⊥))) → new ≡ parts ++ part ∷ []
    → AreParts dim within (take (i + 1) rows) new
parts_more dim within rows kept i d parts new part l k s n p e =
    rw (e, take_more rows i d l) (more_parts dim within (take i rows) (get_or rows i d) parts part s n
    (λ z. subst (λ (ks : List Form). Has part z ↔ ((length z ≡ dim) × Holds ks z × (HoldsAt (get_or rows i d) z → ⊥))) k (p z)))
