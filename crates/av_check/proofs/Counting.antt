-- How many sets have a point, one set after the other.
use Rattle.std.proofs.Common.{◌≡◌, ◌↔◌, ℕ, zero, suc, ◌+◌, ◌<◌, ◌⊎◌, inl, inr, Bool, true, false, true≢false, List, [], ◌∷◌, ◌++◌, length, take, get_or, Option, refl, sym, ap, subst, ◌∙◌, arith, All}
use Rattle.std.specs.Prelude.{if◌then◌else◌}
use Rattle.std.proofs.lemmas.List.{get_or_default}
use Rattle.std.proofs.lemmas.List.Elements.{All-push}
use Rattle.av_poly.specs.declared.poly.Bounds.{Bounds}
use Rattle.av_poly.specs.Points.{Set, Has}
use Rattle.av_poly.specs.Search.{IsBetween}
use Rattle.av_base.proofs.Anys.{any_before, any_last, any_cases}
use Rattle.av_tree.specs.Points.{Point}
use Rattle.av_flat.specs.Points.{has}
use Rattle.av_flat.proofs.Sets.{has_is}
use Rattle.av_check.specs.inner.Least.{IsLeast, first_of}
use Rattle.av_elim.specs.Extents.{IsInside}
use Rattle.av_check.specs.inner.Coverage.{one_in, coverage, IsOff, IsShared, IsSharedBy, IsInAny}
use Rattle.av_check.proofs.Lexicographic.{least_of_two}
use Rattle.av_base.proofs.Lists.{next_taken}

pub one_cases : (z : Point) (set : Set) → (Has set z × (one_in z set ≡ 1)) ⊎ ((Has set z → ⊥) × (one_in z set ≡ 0))
one_cases z set = go (has set z) refl
  where
    go : (t : Bool) → has set z ≡ t → (Has set z × (one_in z set ≡ 1)) ⊎ ((Has set z → ⊥) × (one_in z set ≡ 0))
    go true e = inl ((has_is set z).0 e, ap (λ b. if b then 1 else 0) e)
    go false e = inr ((λ h. true≢false (sym ((has_is set z).1 h) ∙ e)), ap (λ b. if b then 1 else 0) e)

pub having_push : (z : Point) (sets : List Set) (set : Set) → coverage z (sets ++ set ∷ []) ≡ coverage z sets + one_in z set
having_push z [] set = omega arith
having_push z (s ∷ sets) set = let e = having_push z sets set in omega (arith, e)

-- ---- shared points

shared_by_more : (domain set : Set) (others : List Set) (other : Set) (z : Point)
    → (IsSharedBy domain set others z ⊎ (Has domain z × Has set z × Has other z)) ↔ IsSharedBy domain set (others ++ other ∷ []) z
shared_by_more domain set others other z =
    let push = having_push z others other in (
      (λ h. elim h [
        | inl w ↦ let k = w.2 in (w.0, w.1, omega (arith, push, k))
        | inr w ↦ elim (one_cases z other) [ inl o ↦ let e = o.1 in (w.0, w.1, omega (arith, push, e)) | inr o ↦ absurd (o.0 w.2) ]
      ]),
      (λ w. elim (one_cases z other) [
        | inl o ↦ inr (w.0, w.1, o.0)
        | inr o ↦ let e = o.1 in let k = w.2 in inl (w.0, w.1, omega (arith, push, e, k))
      ]),
    )

shared_more : (domain : Set) (sets : List Set) (set : Set) (z : Point)
    → (IsShared domain sets z ⊎ IsSharedBy domain set sets z) ↔ IsShared domain (sets ++ set ∷ []) z
shared_more domain sets set z =
    let push = having_push z sets set in (
      (λ h. elim h [
        | inl w ↦ let k = w.1 in (w.0, omega (arith, push, k))
        | inr w ↦ elim (one_cases z set) [ inl o ↦ let e = o.1 in let k = w.2 in (w.0, omega (arith, push, e, k)) | inr o ↦ absurd (o.0 w.1) ]
      ]),
      (λ w. elim (one_cases z set) [
        | inl o ↦ let e = o.1 in let k = w.1 in inr (w.0, o.0, omega (arith, push, e, k))
        | inr o ↦ let e = o.1 in let k = w.1 in inl (w.0, omega (arith, push, e, k))
      ]),
    )

pub least_shared_by : (domain set : Set) (others : List Set) (i : ℕ) (other : Set) (least next o : Option Point) → i < length others → other ≡ get_or others i other
    → IsLeast (IsSharedBy domain set (take i others)) least → IsLeast (λ z. Has domain z × Has set z × Has other z) next → o ≡ first_of least next
    → IsLeast (IsSharedBy domain set (take (i + 1) others)) o
least_shared_by domain set others i other least next o l e p q f =
    let P : List Set → Type 0 = λ (sets : List Set). IsLeast (IsSharedBy domain set sets) o in
    subst P (sym (next_taken others i other l e))
    (least_of_two (IsSharedBy domain set (take i others)) (λ z. Has domain z × Has set z × Has other z) (IsSharedBy domain set (take i others ++ other ∷ []))
    least next o f (shared_by_more domain set (take i others) other) p q)

pub least_shared : (domain : Set) (sets : List Set) (i : ℕ) (set : Set) (least next o : Option Point) → i < length sets → set ≡ get_or sets i set
    → IsLeast (IsShared domain (take i sets)) least → IsLeast (IsSharedBy domain set (take i sets)) next → o ≡ first_of least next
    → IsLeast (IsShared domain (take (i + 1) sets)) o
least_shared domain sets i set least next o l e p q f =
    let P : List Set → Type 0 = λ (ss : List Set). IsLeast (IsShared domain ss) o in
    subst P (sym (next_taken sets i set l e))
    (least_of_two (IsShared domain (take i sets)) (IsSharedBy domain set (take i sets)) (IsShared domain (take i sets ++ set ∷ []))
    least next o f (shared_more domain (take i sets) set) p q)

-- ---- none, or two and more

off_cases : (n : ℕ) → (n ≡ 1 → ⊥) → (1 < n) ⊎ (n ≡ 0)
off_cases zero h = inr refl
off_cases (suc zero) h = absurd (h refl)
off_cases (suc (suc n)) h = inl (omega arith)

off_is : (domain : Set) (sets : List Set) (z : Point) → (IsShared domain sets z ⊎ (Has domain z × (coverage z sets ≡ 0))) ↔ IsOff domain sets z
off_is domain sets z = (
  (λ h. elim h [
    | inl w ↦ let k = w.1 in (w.0, λ e. omega (arith, k, e))
    | inr w ↦ let k = w.1 in (w.0, λ e. omega (arith, k, e))
  ]),
  (λ w. elim (off_cases (coverage z sets) w.1) [ inl k ↦ inl (w.0, k) | inr k ↦ inr (w.0, k) ]),
)

pub least_off : (domain : Set) (sets : List Set) (shared left o : Option Point) → IsLeast (IsShared domain sets) shared → IsLeast (λ z. Has domain z × (coverage z sets ≡ 0)) left
    → o ≡ first_of shared left → IsLeast (IsOff domain sets) o
least_off domain sets shared left o p q e =
    least_of_two (IsShared domain sets) (λ z. Has domain z × (coverage z sets ≡ 0)) (IsOff domain sets) shared left o e (off_is domain sets) p q

-- ---- parts

pub in_any_push : (parts : List Set) (part : Set) (z : Point) → (IsInAny parts z ⊎ Has part z) ↔ IsInAny (parts ++ part ∷ []) z
in_any_push parts part z =
    let P : Set → Type 0 = λ p. Has p z in (
      (λ h. elim h [ inl w ↦ any_before P parts part w | inr w ↦ any_last P parts part w ]),
      (λ w. any_cases P parts part w),
    )

pub in_any_none : (z : Point) → IsInAny [] z → ⊥
in_any_none z (k, x, l, e, h) = omega (arith, l)

pub in_any_one : (part : Set) (z : Point) → Has part z ↔ IsInAny (part ∷ []) z
in_any_one part z = (
  (λ h. (in_any_push [] part z).0 (inr h)),
  (λ w. elim ((in_any_push [] part z).1 w) [ inl v ↦ absurd (in_any_none z v) | inr v ↦ v ]),
)

-- each part of a list has no point outside the box
pub all_inside : (dim : ℕ) (extent : Bounds) (parts : List Set) → All (λ part. part.dim ≡ dim) parts → ((z : Point) → IsInAny parts z → IsBetween extent.low extent.high z) → All (IsInside dim extent) parts
all_inside dim extent parts dims f k d l = record {
  dim_is = dims k d l;
  between = λ z h. f z (k, get_or parts k d, l, get_or_default parts k (get_or parts k d) d l, h);
}

pub least_parts : (parts : List Set) (i : ℕ) (part : Set) (least next o : Option Point) → i < length parts → part ≡ get_or parts i part
    → IsLeast (IsInAny (take i parts)) least → IsLeast (Has part) next → o ≡ first_of least next → IsLeast (IsInAny (take (i + 1) parts)) o
least_parts parts i part least next o l e p q f =
    let P : List Set → Type 0 = λ (ps : List Set). IsLeast (IsInAny ps) o in
    subst P (sym (next_taken parts i part l e))
    (least_of_two (IsInAny (take i parts)) (Has part) (IsInAny (take i parts ++ part ∷ [])) least next o f (in_any_push (take i parts) part) p q)

-- a part more, which has a point
pub parts_more : (old to parts : List Set) (i : ℕ) (part own : Set) → i < length parts → part ≡ get_or parts i part → ((z : Point) → Has own z ↔ Has part z)
    → ((z : Point) → IsInAny to z ↔ (IsInAny old z ⊎ IsInAny (take i parts) z)) → (z : Point) → IsInAny (to ++ own ∷ []) z ↔ (IsInAny old z ⊎ IsInAny (take (i + 1) parts) z)
parts_more old to parts i part own l e same h z =
    let P : List Set → Type 0 = λ (ps : List Set). IsInAny (to ++ own ∷ []) z ↔ (IsInAny old z ⊎ IsInAny ps z) in
    let more = in_any_push (take i parts) part z in
    subst P (sym (next_taken parts i part l e)) (
      (λ w. elim ((in_any_push to own z).1 w) [
        | inl v ↦ elim ((h z).0 v) [ inl u ↦ inl u | inr u ↦ inr (more.0 (inl u)) ]
        | inr v ↦ inr (more.0 (inr ((same z).0 v)))
      ]),
      (λ w. elim w [
        | inl v ↦ (in_any_push to own z).0 (inl ((h z).1 (inl v)))
        | inr v ↦ elim (more.1 v) [ inl u ↦ (in_any_push to own z).0 (inl ((h z).1 (inr u))) | inr u ↦ (in_any_push to own z).0 (inr ((same z).1 u)) ]
      ]),
    )

-- a part more, which has none
pub parts_same : (old to parts : List Set) (i : ℕ) (part : Set) → i < length parts → part ≡ get_or parts i part → ((z : Point) → Has part z → ⊥)
    → ((z : Point) → IsInAny to z ↔ (IsInAny old z ⊎ IsInAny (take i parts) z)) → (z : Point) → IsInAny to z ↔ (IsInAny old z ⊎ IsInAny (take (i + 1) parts) z)
parts_same old to parts i part l e none h z =
    let P : List Set → Type 0 = λ (ps : List Set). IsInAny to z ↔ (IsInAny old z ⊎ IsInAny ps z) in
    let more = in_any_push (take i parts) part z in
    subst P (sym (next_taken parts i part l e)) (
      (λ w. elim ((h z).0 w) [ inl u ↦ inl u | inr u ↦ inr (more.0 (inl u)) ]),
      (λ w. elim w [
        | inl v ↦ (h z).1 (inl v)
        | inr v ↦ elim (more.1 v) [ inl u ↦ (h z).1 (inr u) | inr u ↦ absurd (none z u) ]
      ]),
    )

-- what a set leaves of one part more
pub outside_more : (set : Set) (parts left outside new : List Set) (i : ℕ) (part : Set) → i < length parts → part ≡ get_or parts i part
    → ((z : Point) → IsInAny outside z ↔ (Has part z × (Has set z → ⊥))) → ((z : Point) → IsInAny new z ↔ (IsInAny left z ⊎ IsInAny outside z))
    → ((z : Point) → IsInAny left z ↔ (IsInAny (take i parts) z × (Has set z → ⊥))) → (z : Point) → IsInAny new z ↔ (IsInAny (take (i + 1) parts) z × (Has set z → ⊥))
outside_more set parts left outside new i part l e own more h z =
    let P : List Set → Type 0 = λ (ps : List Set). IsInAny new z ↔ (IsInAny ps z × (Has set z → ⊥)) in
    let push = in_any_push (take i parts) part z in
    subst P (sym (next_taken parts i part l e)) (
      (λ w. elim ((more z).0 w) [
        | inl v ↦ let u = (h z).0 v in (push.0 (inl u.0), u.1)
        | inr v ↦ let u = (own z).0 v in (push.0 (inr u.0), u.1)
      ]),
      (λ w. elim (push.1 w.0) [
        | inl v ↦ (more z).1 (inl ((h z).1 (v, w.1)))
        | inr v ↦ (more z).1 (inr ((own z).1 (v, w.1)))
      ]),
    )

-- what one set more leaves of the domain
pub left_more : (domain : Set) (sets left new : List Set) (i : ℕ) (set : Set) → i < length sets → set ≡ get_or sets i set
    → ((z : Point) → IsInAny new z ↔ (IsInAny left z × (Has set z → ⊥))) → ((z : Point) → IsInAny left z ↔ (Has domain z × (coverage z (take i sets) ≡ 0)))
    → (z : Point) → IsInAny new z ↔ (Has domain z × (coverage z (take (i + 1) sets) ≡ 0))
left_more domain sets left new i set l e more h z =
    let P : List Set → Type 0 = λ (ss : List Set). IsInAny new z ↔ (Has domain z × (coverage z ss ≡ 0)) in
    let push = having_push z (take i sets) set in
    subst P (sym (next_taken sets i set l e)) (
      (λ w. let v = (more z).0 w in let u = (h z).0 v.0 in elim (one_cases z set) [
        | inl o ↦ absurd (v.1 o.0)
        | inr o ↦ let a = u.1 in let b = o.1 in (u.0, omega (arith, push, a, b))
      ]),
      (λ w. let k = w.1 in elim (one_cases z set) [
        | inl o ↦ let b = o.1 in absurd (omega (arith, push, b, k))
        | inr o ↦ let b = o.1 in (more z).1 ((h z).1 (w.0, omega (arith, push, b, k)), o.0)
      ]),
    )

-- ---- lists of parts

pub inside_more : (dim : ℕ) (extent : Bounds) (to parts new : List Set) (i : ℕ) (part own : Set) → i < length parts → part ≡ get_or parts i part → All (IsInside dim extent) parts → own.dim ≡ part.dim
    → ((z : Point) → Has own z ↔ Has part z) → new ≡ to ++ own ∷ [] → All (IsInside dim extent) to → All (IsInside dim extent) new
inside_more dim extent to parts new i part own l e each d same f h =
    let here : IsInside dim extent part = subst (IsInside dim extent) (sym e) (each i part l) in
    subst (All (IsInside dim extent)) (sym f)
    (All-push (IsInside dim extent) to own h (record { dim_is = d ∙ here.dim_is; between = λ z k. here.between z ((same z).0 k) }))

pub parts_pushed : (old to parts new : List Set) (i : ℕ) (part own : Set) → i < length parts → part ≡ get_or parts i part → ((z : Point) → Has own z ↔ Has part z) → new ≡ to ++ own ∷ []
    → ((z : Point) → IsInAny to z ↔ (IsInAny old z ⊎ IsInAny (take i parts) z)) → (z : Point) → IsInAny new z ↔ (IsInAny old z ⊎ IsInAny (take (i + 1) parts) z)
parts_pushed old to parts new i part own l e same f h z =
    let P : List Set → Type 0 = λ (ps : List Set). IsInAny ps z ↔ (IsInAny old z ⊎ IsInAny (take (i + 1) parts) z) in
    subst P (sym f) (parts_more old to parts i part own l e same h z)

-- what a set leaves of a part has no point outside the box
pub outside_inside : (dim : ℕ) (extent : Bounds) (set part : Set) (parts outside : List Set) (i : ℕ) → i < length parts → part ≡ get_or parts i part → All (IsInside dim extent) parts → set.dim ≡ dim
    → All (λ p. p.dim ≡ set.dim) outside → ((z : Point) → IsInAny outside z ↔ (Has part z × (Has set z → ⊥))) → All (IsInside dim extent) outside
outside_inside dim extent set part parts outside i l e each d dims own =
    let here : IsInside dim extent part = subst (IsInside dim extent) (sym e) (each i part l) in
    all_inside dim extent outside (λ k x m. dims k x m ∙ d) (λ z w. here.between z ((own z).0 w).0)

pub first_inside : (domain own : Set) (extent : Bounds) (new : List Set) → IsInside domain.dim extent domain → own.dim ≡ domain.dim → ((z : Point) → Has own z ↔ Has domain z) → new ≡ [] ++ own ∷ []
    → All (IsInside domain.dim extent) new
first_inside domain own extent new h d same f =
    subst (All (IsInside domain.dim extent)) (sym f)
    (All-push (IsInside domain.dim extent) [] own (λ k x m. absurd (omega (arith, m))) (record { dim_is = d; between = λ z k. h.between z ((same z).0 k) }))

pub first_left : (domain own : Set) (new : List Set) → ((z : Point) → Has own z ↔ Has domain z) → new ≡ [] ++ own ∷ [] → (z : Point) → IsInAny new z ↔ (Has domain z × (coverage z [] ≡ 0))
first_left domain own new same f z =
    let P : List Set → Type 0 = λ (ps : List Set). IsInAny ps z ↔ (Has domain z × (coverage z [] ≡ 0)) in
    subst P (sym f) ((λ w. ((same z).0 ((in_any_one own z).1 w), refl)), (λ w. (in_any_one own z).0 ((same z).1 w.0)))
