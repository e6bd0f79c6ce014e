-- The map of a reduction is a projection: each of its forms is one index.
use Rattle.std.proofs.Common.{◌≡◌, ◌≢◌, ℕ, zero, suc, ◌+◌, ◌<◌, ◌≤◌, inl, inr, Bool, true, false, ◌&&◌, IsTrue, List, [], ◌∷◌, length, map, take, get_or, Option, Some, None, refl, sym, ap, ap₂, subst, ◌∙◌, arith, ℤ, pos, ◌+ℤ◌, nat_eq, if◌then◌else◌}
use Rattle.std.specs.Prelude.{bytes_eq, int_le}
use Rattle.std.specs.List.{range_with_len}
use Rattle.std.proofs.lemmas.Int.{ints}
use Rattle.std.proofs.lemmas.Bool.{cases_lt}
use Rattle.std.proofs.lemmas.List.{length-map, get_or_default}
use Rattle.std.proofs.lemmas.List.FromFn.{get_or-map-range_with_len}
use Rattle.std.proofs.lemmas.List.Elements.{All-map}
use Rattle.av_affine.specs.Completion.{unit_row}
use Rattle.av_tree.specs.declared.domain.Term.{Term}
use Rattle.av_tree.specs.declared.domain.IndexExpr.{IndexExpr}
use Rattle.av_tree.specs.declared.domain.MapText.{MapText}
use Rattle.av_tree.specs.Trees.{Text}
use Rattle.av_tree.specs.Points.{Sizes, is_named, is_one, is_plain}
use Rattle.av_tree.specs.Rows.{coefficient, constant, is_index}
use Rattle.av_flat.specs.WellFormed.{IsIndex, IsProjection}
use Rattle.av_flat.proofs.Sets.{both_true, at_most, equal, is_equal}
use Rattle.av_names.specs.Forms.{filled, form_of, map_of}
use Rattle.av_names.specs.Regular.{AreDistinct, IsMap, Projects}
use Rattle.av_names.proofs.Names.{equal_names, same_names}
use Rattle.av_names.proofs.Declared.{or_true}
use Rattle.av_names.proofs.Bounded.{take_filled}
use Rattle.av_base.proofs.Truths.{same_truth}
use Rattle.av_base.proofs.Lists.{pairs_map}

-- ---- pairs

-- ---- one index

one : (k : ℤ) → IsTrue (is_one k) → k ≡ pos 1
one k h = let p = both_true (int_le (pos 1) k) (int_le k (pos 1)) h in let a = at_most (pos 1) k p.0 in let b = at_most k (pos 1) p.1 in omega (arith, ints, a, b)

-- a term that is the index x alone has the factor 1 there and nothing elsewhere
abbrev pub Plain : Text → Option Text → ℤ → Type 0
Plain x o factor = (y : Text) × (o ≡ Some y) × (y ≡ x) × (factor ≡ pos 1)

pub plain_term : (x : Text) (o : Option Text) (factor : ℤ) → IsTrue (is_named x o && is_one factor) → Plain x o factor
plain_term x None factor h = absurd cc
plain_term x (Some y) factor h = let p = both_true (bytes_eq y x) (is_one factor) h in (y, refl, equal_names y x p.0, one factor p.1)

plain_coefficient : (x name : Text) (terms : List Term) → IsTrue (is_plain x terms) → coefficient terms name ≡ (if bytes_eq x name then pos 1 else pos 0)
plain_coefficient x name [] h = absurd cc
plain_coefficient x name (t ∷ s ∷ terms) h = absurd cc
plain_coefficient x name (t ∷ []) h =
    let p = plain_term x t.name t.factor h in
    rw (p.1, p.2, p.3) (go (bytes_eq x name))
  where
    go : (b : Bool) → (if b then pos 1 else pos 0) +ℤ pos 0 ≡ (if b then pos 1 else pos 0)
    go true = refl
    go false = refl

index_there : (names : List Text) (k : ℕ) (x : Text) → k < length names → get_or names k x ≡ x → is_index names x ≡ true
index_there [] k x l e = absurd (omega (arith, l))
index_there (n ∷ names) zero x l e = rw (same_names n x e) refl
index_there (n ∷ names) (suc k) x l e = rw (index_there names k x (omega (arith, l)) e) (or_true (bytes_eq n x))

plain_constant : (sizes : Sizes) (names : List Text) (x : Text) (terms : List Term) → is_index names x ≡ true → IsTrue (is_plain x terms) → constant sizes names terms ≡ pos 0
plain_constant sizes names x [] i h = absurd cc
plain_constant sizes names x (t ∷ s ∷ terms) i h = absurd cc
plain_constant sizes names x (t ∷ []) i h = let p = plain_term x t.name t.factor h in rw (p.1, p.2, i) refl

-- the coefficients of the index at place k
units : (f : Text → ℤ) (names : List Text) (start k : ℕ) → ((j : ℕ) (d : Text) → j < length names → f (get_or names j d) ≡ (if nat_eq (start + j) k then pos 1 else pos 0))
    → map f names ≡ map (λ j. if nat_eq j k then pos 1 else pos 0) (range_with_len start (length names))
units f [] start k h = refl
units f (n ∷ names) start k h =
    let here : f n ≡ (if nat_eq start k then pos 1 else pos 0) = h 0 n (omega arith) ∙ ap (λ j. if nat_eq j k then pos 1 else pos 0) (let e : start + 0 ≡ start = omega arith in e) in
    let rest = units f names (start + 1) k (λ j d l. h (suc j) d (omega (arith, l)) ∙ ap (λ i. if nat_eq i k then pos 1 else pos 0) (let e : start + suc j ≡ (start + 1) + j = omega arith in e)) in
    ap₂ (λ b bs. b ∷ bs) here rest

-- names at two places are the same where the places are
same_place : (names : List Text) (j k : ℕ) (d x : Text) → AreDistinct names → j < length names → k < length names → get_or names k x ≡ x
    → bytes_eq x (get_or names j d) ≡ nat_eq j k
same_place names j k d x h l m e = same_truth (bytes_eq x (get_or names j d)) (nat_eq j k)
    (λ p. is_equal j k (cases (equal_names x (get_or names j d) p)))
    (λ p. same_names x (get_or names j d) (sym e ∙ ap (λ i. get_or names i x) (sym (equal j k p)) ∙ get_or_default names j x d l))
  where
    apart : (a b : ℕ) → a < b → b < length names → get_or names a d ≢ get_or names b d
    apart a b p q = h a b d p q

    at_k : get_or names k d ≡ x
    at_k = get_or_default names k d x m ∙ e

    cases : x ≡ get_or names j d → j ≡ k
    cases p = elim (cases_lt j k) [ inl q ↦ absurd (apart j k q m (sym p ∙ sym at_k)) | inr q ↦ (elim (cases_lt k j) [ inl r ↦ absurd (apart k j r l (at_k ∙ p)) | inr r ↦ omega (arith, q, r) ]) ]

module _ (sizes : Sizes) (names : List Text) (distinct : AreDistinct names) (few : length names ≤ 4) where
  plain_index : (e : IndexExpr) (k : ℕ) (x : Text) → k < length names → get_or names k x ≡ x → IsTrue (is_plain x e.terms) → IsIndex (length names) (form_of sizes names e) k
  plain_index e k x l q p =
      let coefs = map (coefficient e.terms) names in
      let size : length coefs ≡ length names = length-map names (coefficient e.terms) in
      let taken : take (length names) (filled coefs) ≡ coefs = ap (λ n. take n (filled coefs)) (sym size) ∙ take_filled coefs (omega (arith, size, few)) in
      let row = units (coefficient e.terms) names 0 k (λ j d m. plain_coefficient x (get_or names j d) e.terms p
      ∙ ap (λ b. if b then pos 1 else pos 0) (same_place names j k d x distinct m l q ∙ ap (λ i. nat_eq i k) (let z : j ≡ 0 + j = omega arith in z))) in
      record {
        within = l;
        coefficients = taken ∙ row;
        constant = plain_constant sizes names x e.terms (index_there names k x l q) p;
      }

  same_unit : (a b : ℕ) → a < length names → unit_row (length names) a ≡ unit_row (length names) b → a ≡ b
  same_unit a b l e =
      let at : (k : ℕ) → get_or (unit_row (length names) k) a (pos 0) ≡ (if nat_eq a k then pos 1 else pos 0) = λ k. get_or-map-range_with_len (λ j. if nat_eq j k then pos 1 else pos 0) 0 (length names) a a (pos 0) l (omega arith) in
      go (nat_eq a b) refl (sym (at a) ∙ ap (λ r. get_or r a (pos 0)) e ∙ at b)
    where
      go : (t : Bool) → nat_eq a b ≡ t → (if nat_eq a a then pos 1 else pos 0) ≡ (if nat_eq a b then pos 1 else pos 0) → a ≡ b
      go true p q = equal a b p
      go false p q = absurd (
          let r : pos 1 ≡ pos 0 = ap (λ t. if t then pos 1 else pos 0) (sym (is_equal a a refl)) ∙ q ∙ ap (λ t. if t then pos 1 else pos 0) p in omega (arith, ints, r))

-- a reduction's map gives all its indices but one, each once
pub projects : (sizes : Sizes) (m : MapText) → IsMap sizes m → length m.names ≤ 4 → Projects m → IsProjection (map_of sizes m)
projects sizes m h few p = record {
  drops_one = ap suc (length-map m.results (form_of sizes m.names)) ∙ p.drops_one;
  indices = All-map (λ f. (place : ℕ) × IsIndex (length m.names) f place) (form_of sizes m.names) m.results (λ i d l.
      let r = p.plain i d l in (r.0, plain_index sizes m.names h.distinct few (get_or m.results i d) r.0 r.1 r.2 r.3 r.4));
  once = pairs_map (λ f g. (place : ℕ) → IsIndex (length m.names) f place → IsIndex (length m.names) g place → ⊥) (form_of sizes m.names) m.results (λ i j d l n place a b.
      let r = p.plain i d (omega (arith, l, n)) in
      let s = p.plain j d n in
      let u = plain_index sizes m.names h.distinct few (get_or m.results i d) r.0 r.1 r.2 r.3 r.4 in
      let v = plain_index sizes m.names h.distinct few (get_or m.results j d) s.0 s.1 s.2 s.3 s.4 in
      let same_r = same_unit sizes m.names h.distinct few r.0 place r.2 (sym u.coefficients ∙ a.coefficients) in
      let same_s = same_unit sizes m.names h.distinct few s.0 place s.2 (sym v.coefficients ∙ b.coefficients) in
      let same : s.1 ≡ r.1 = sym s.3 ∙ ap (λ k. get_or m.names k s.1) (same_s ∙ sym same_r) ∙ get_or_default m.names r.0 s.1 r.1 r.2 ∙ r.3 in
      p.once i j d l n r.1 r.4 (subst (λ x. IsTrue (is_plain x (get_or m.results j d).terms)) same s.4));
}
