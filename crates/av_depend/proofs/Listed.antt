-- Points between bounds, one first entry at a time.
use Rattle.std.proofs.Common.{◌≡◌, ℕ, zero, suc, ◌+◌, ◌<◌, ℤ, pos, ◌+ℤ◌, ◌≤ℤ◌, ◌<ℤ◌, Bool, true, false, IsTrue, if◌then◌else◌, List, [], ◌∷◌, ◌++◌, length, append_assoc, get_or, take, inl, inr, ⊎_elim, refl, sym, ap, subst, ◌∙◌, arith}
use Rattle.std.specs.Prelude.{Contains, AllPairs, filter}
use Rattle.std.proofs.lemmas.Int.{ints, by_lt_z}
use Rattle.std.proofs.lemmas.List.{append-nil, nil_from_length}
use Rattle.std.proofs.lemmas.List.Elements.{Contains-append_left, Contains-append_right, Contains-append_cases, filter-append}
use Rattle.std.specs.Int.Signed.{lt_z}
use Rattle.av_affine.specs.declared.form.Form.{Form}
use Rattle.av_poly.specs.Points.{Set, Has, Holds}
use Rattle.av_poly.specs.Search.{IsBetween, CanFollow}
use Rattle.av_poly.proofs.Searching.{later, follow_rest, follow_first, follows_none, is_point}
use Rattle.av_tree.specs.Points.{Point}
use Rattle.av_flat.specs.Points.{has}
use Rattle.av_flat.proofs.Sets.{has_is}
use Rattle.av_flat.specs.Order.{IsBefore}
use Rattle.av_depend.specs.AllPoints.{AreAllPoints}
use Rattle.av_depend.specs.inner.Listing.{AreListed, HasListed}
use Rattle.av_base.proofs.Among.{first_among, more_among, among_cases, none_among}
use Rattle.av_depend.proofs.Mirrors.{take_more}
use Rattle.av_base.proofs.Truths.{by_test}
use Rattle.av_base.proofs.Lists.{pairs_rest}

-- ---- joined lists in order

pairs_first : {X : Type 0} (R : X → X → Type 0) (x : X) (xs : List X) → ((y : X) → Contains xs y → R x y) → AllPairs R xs → AllPairs R (x ∷ xs)
pairs_first R x xs h p zero zero d l m = absurd (omega (arith, l))
pairs_first R x xs h p zero (suc j) d l m = h (get_or xs j d) (j, omega (arith, m), same xs j d (omega (arith, m)))
  where
    same : {X : Type 0} (xs : List X) (j : ℕ) (d : X) → j < length xs → get_or xs j (get_or xs j d) ≡ get_or xs j d
    same [] j d l = absurd (omega (arith, l))
    same (x ∷ xs) zero d l = refl
    same (x ∷ xs) (suc j) d l = same xs j d (omega (arith, l))
pairs_first R x xs h p (suc i) zero d l m = absurd (omega (arith, l))
pairs_first R x xs h p (suc i) (suc j) d l m = p i j d (omega (arith, l)) (omega (arith, m))

pairs_of : {X : Type 0} (R : X → X → Type 0) (x y : X) (xs : List X) → AllPairs R (x ∷ xs) → Contains xs y → R x y
pairs_of R x y xs p (k, l, e) = subst (R x) e (p 0 (suc k) y (omega arith) (omega (arith, l)))

pub pairs_joined : {X : Type 0} (R : X → X → Type 0) (xs ys : List X) → AllPairs R xs → AllPairs R ys → ((x y : X) → Contains xs x → Contains ys y → R x y) → AllPairs R (xs ++ ys)
pairs_joined R [] ys p q h = q
pairs_joined R (x ∷ xs) ys p q h = pairs_first R x (xs ++ ys)
    (λ y c. ⊎_elim (λ a. pairs_of R x y xs p a) (λ b. h x y (first_among x xs) b) (Contains-append_cases xs ys y c))
    (pairs_joined R xs ys (pairs_rest R x xs p) q (λ z y a b. h z y (more_among x z xs a) b))

before_behind : (fixed xs ys : Point) → IsBefore xs ys → IsBefore (fixed ++ xs) (fixed ++ ys)
before_behind [] xs ys h = h
before_behind (z ∷ fixed) xs ys h = inr (refl, before_behind fixed xs ys h)

-- ---- those whose first entry is below a number

pub record AreListedTo (rows : List Form) (fixed low high : Point) (value : ℤ) (points : List Point) : Type 0 where
  pub ascending : AllPairs IsBefore points
  pub each : (z : Point) → Contains points z → (x : ℤ) × (rest : Point) × (z ≡ fixed ++ x ∷ rest) × (x <ℤ value) × CanFollow rows fixed low high (x ∷ rest)
  pub all : (x : ℤ) (rest : Point) → x <ℤ value → CanFollow rows fixed low high (x ∷ rest) → Contains points (fixed ++ x ∷ rest)

first_between : (low high rest : Point) (x : ℤ) → IsBetween low high (x ∷ rest) → (get_or low 0 (pos 0) ≤ℤ x) × (x ≤ℤ get_or high 0 (pos 0))
first_between [] high rest x h = absurd h
first_between (l ∷ low) [] rest x h = absurd h
first_between (l ∷ low) (g ∷ high) rest x h = (h.0, h.1)

pub listed_none : (rows : List Form) (fixed low high : Point) (value : ℤ) → value ≡ get_or low 0 (pos 0) → AreListedTo rows fixed low high value []
listed_none rows fixed low high value e = record {
  ascending = λ i j d l m. absurd (omega (arith, m));
  each = λ z c. absurd (none_among z c);
  all = λ x rest l h. absurd (let b = (first_between low high rest x h.between).0 in omega (arith, ints, l, e, b));
}

joined : (fixed rest : Point) (x : ℤ) → (fixed ++ x ∷ []) ++ rest ≡ fixed ++ x ∷ rest
joined fixed rest x = append_assoc fixed (x ∷ []) rest

module _ (rows : List Form) (fixed low high : Point) (value : ℤ) (some : 0 < length low) (size : length high ≡ length low) (above : get_or low 0 (pos 0) ≤ℤ value) (within : value ≤ℤ get_or high 0 (pos 0)) where
  pub listed_next : (old more : List Point) → AreListedTo rows fixed low high value old → AreListed rows (fixed ++ value ∷ []) (later low) (later high) more → AreListedTo rows fixed low high (value +ℤ pos 1) (old ++ more)
  listed_next old more h k = record {
    ascending = pairs_joined IsBefore old more h.ascending k.ascending (λ a b p q. in_order a b p q);
    each = λ z c. ⊎_elim
        (λ p. let r = h.each z p in let l = r.3 in (r.0, r.1, r.2, omega (arith, ints, l), r.4))
        (λ q. let r = k.each z q in (value, r.0, r.1 ∙ joined fixed r.0 value, omega (arith, ints), follow_first rows fixed low high r.0 value some size above within r.2))
        (Contains-append_cases old more z c);
    all = λ x rest l f. by_lt_z x value
        (λ less. Contains-append_left old more (fixed ++ x ∷ rest) (h.all x rest less f))
        (λ most.
        let same : x ≡ value = omega (arith, ints, l, most) in
        let g : CanFollow rows fixed low high (value ∷ rest) = subst (λ (y : ℤ). CanFollow rows fixed low high (y ∷ rest)) same f in
        let i = k.all rest (follow_rest rows fixed low high rest value g) in
        Contains-append_right old more (fixed ++ x ∷ rest) (subst (Contains more) (joined fixed rest value ∙ ap (λ y. fixed ++ y ∷ rest) (sym same)) i));
  }
    where
      in_order : (a b : Point) → Contains old a → Contains more b → IsBefore a b
      in_order a b p q =
          let r = h.each a p in
          let s = k.each b q in
          let less = r.3 in
          subst (λ (y : Point). IsBefore y b) (sym r.2) (subst (IsBefore (fixed ++ r.0 ∷ r.1)) (sym (s.1 ∙ joined fixed s.0 value)) (before_behind fixed (r.0 ∷ r.1) (value ∷ s.0) (inl less)))

pub listed_through : (rows : List Form) (fixed low high : Point) (value : ℤ) (points : List Point) → 0 < length low → get_or high 0 (pos 0) <ℤ value → AreListedTo rows fixed low high value points → AreListed rows fixed low high points
listed_through rows fixed low high value points some past h = record {
  ascending = h.ascending;
  each = λ z c. let r = h.each z c in (r.0 ∷ r.1, r.2, r.4);
  all = every;
}
  where
    every : (rest : Point) → CanFollow rows fixed low high rest → Contains points (fixed ++ rest)
    every [] f = (let n = f.size in absurd (omega (arith, n, some)))
    every (x ∷ rest) f = (let b = (first_between low high rest x f.between).1 in h.all x rest (omega (arith, ints, b, past)) f)

pub record HasListedTo (set : Set) (fixed low high : Point) (value : ℤ) (old new : List Point) : Type 0 where
  pub added : List Point
  pub new_is : new ≡ old ++ added
  pub are : AreListedTo set.rows fixed low high value added

pub added_none : (set : Set) (fixed low high : Point) (value : ℤ) (old : List Point) → value ≡ get_or low 0 (pos 0) → HasListedTo set fixed low high value old old
added_none set fixed low high value old e = record { added = []; new_is = sym (append-nil old); are = listed_none set.rows fixed low high value e }

pub added_next : (set : Set) (fixed low high : Point) (value : ℤ) (old middle new : List Point) → 0 < length low → length high ≡ length low → get_or low 0 (pos 0) ≤ℤ value → value ≤ℤ get_or high 0 (pos 0)
    → HasListedTo set fixed low high value old middle → HasListed set (fixed ++ value ∷ []) (later low) (later high) middle new → HasListedTo set fixed low high (value +ℤ pos 1) old new
added_next set fixed low high value old middle new some size above within h k = record {
  added = h.added ++ k.added;
  new_is = k.new_is ∙ ap (λ (xs : List Point). xs ++ k.added) h.new_is ∙ append_assoc old h.added k.added;
  are = listed_next set.rows fixed low high value some size above within h.added k.added h.are k.are;
}

pub added_through : (set : Set) (fixed low high : Point) (value : ℤ) (old new : List Point) → 0 < length low → get_or high 0 (pos 0) <ℤ value → HasListedTo set fixed low high value old new → HasListed set fixed low high old new
added_through set fixed low high value old new some past h = record { added = h.added; new_is = h.new_is; are = listed_through set.rows fixed low high value h.added some past h.are }

-- ---- the last entry

pub filter_kept : {X : Type 0} (p : X → Bool) (x : X) → IsTrue (p x) → filter p (x ∷ []) ≡ x ∷ []
filter_kept p x t = ap (λ b. if b then x ∷ [] else []) t

pub filter_left : {X : Type 0} (p : X → Bool) (x : X) → p x ≡ false → filter p (x ∷ []) ≡ []
filter_left p x f = ap (λ b. if b then x ∷ [] else []) f

-- one more of the elements
pub filter_more : {X : Type 0} (p : X → Bool) (xs : List X) (k : ℕ) (x : X) → k < length xs → x ≡ get_or xs k x → IsTrue (p x) → filter p (take (k + 1) xs) ≡ filter p (take k xs) ++ x ∷ []
filter_more p xs k x l e t = ap (filter p) (take_more xs k x l) ∙ filter-append p (take k xs) (get_or xs k x ∷ []) ∙ ap (λ ys. filter p (take k xs) ++ ys) (ap (λ y. filter p (y ∷ [])) (sym e) ∙ filter_kept p x t)

pub filter_same : {X : Type 0} (p : X → Bool) (xs : List X) (k : ℕ) (x : X) → k < length xs → x ≡ get_or xs k x → p x ≡ false → filter p (take (k + 1) xs) ≡ filter p (take k xs)
filter_same p xs k x l e f =
    ap (filter p) (take_more xs k x l) ∙ filter-append p (take k xs) (get_or xs k x ∷ []) ∙ ap (λ ys. filter p (take k xs) ++ ys) (ap (λ y. filter p (y ∷ [])) (sym e) ∙ filter_left p x f) ∙ append-nil (filter p (take k xs))

-- where a test means that the set has the point
pub has_true : (set : Set) (z : Point) → Has set z → IsTrue (has set z)
has_true set z h = (has_is set z).1 h

pub has_false : (set : Set) (z : Point) → (Has set z → ⊥) → has set z ≡ false
has_false set z n = by_test (has set z) (λ t. absurd (n ((has_is set z).0 t))) (λ f. f)

-- ---- ends of walks

pub at_most_end : (v h : ℤ) → lt_z v (h +ℤ pos 1) ≡ true → v ≤ℤ h
at_most_end v h t = grind (arith, ints)

pub past_end : (v h : ℤ) → lt_z v (h +ℤ pos 1) ≡ false → h <ℤ v
past_end v h t = grind (arith, ints)

pub listed_here : (set : Set) (fixed low high : Point) → length low ≡ 0 → length fixed ≡ set.dim → AreListed set.rows fixed low high (filter (has set) (fixed ∷ []))
listed_here set fixed low high none size = by_test (has set fixed)
    (λ t. subst (AreListed set.rows fixed low high) (sym (filter_kept (has set) fixed t)) (found t))
    (λ f. subst (AreListed set.rows fixed low high) (sym (filter_left (has set) fixed f)) (missed f))
  where
    empty : (rest : Point) → CanFollow set.rows fixed low high rest → rest ≡ []
    empty rest h = let n = h.size in nil_from_length rest (n ∙ none)

    found : IsTrue (has set fixed) → AreListed set.rows fixed low high (fixed ∷ [])
    found t = record {
      ascending = λ i j d l m. absurd (omega (arith, l, m));
      each = λ z c. ⊎_elim
          (λ e. ([], sym e ∙ sym (append-nil fixed), record { size = sym none; between = tt; holds = subst (Holds set.rows) (sym (append-nil fixed)) ((has_is set fixed).0 t).holds }))
          (λ k. absurd (none_among z k))
          (among_cases fixed z [] c);
      all = λ rest h. subst (Contains (fixed ∷ [])) (sym (append-nil fixed) ∙ ap (λ (r : Point). fixed ++ r) (sym (empty rest h))) (first_among fixed []);
    }

    missed : has set fixed ≡ false → AreListed set.rows fixed low high []
    missed f = record {
      ascending = λ i j d l m. absurd (omega (arith, m));
      each = λ z c. absurd (none_among z c);
      all = λ rest h. absurd (
          let there : Has set fixed = record { dimension = size; holds = subst (Holds set.rows) (ap (λ (r : Point). fixed ++ r) (empty rest h) ∙ append-nil fixed) h.holds } in
          let t = (has_is set fixed).1 there in
          let g = sym f ∙ t in cc);
    }

-- ---- all points of a set

pub listed_are_all : (set : Set) (low high : Point) (points : List Point) → length (take set.dim low) ≡ set.dim → ((z : Point) → Has set z → IsBetween low high z) → AreListed set.rows [] (take set.dim low) (take set.dim high) points → AreAllPoints set points
listed_are_all set low high points size inside h = record {
  ascending = h.ascending;
  each = λ k d l.
      let z = get_or points k d in
      let r = h.each z (at points k d l) in
      (has_is set z).1 (is_point set low high z size (subst (CanFollow set.rows [] (take set.dim low) (take set.dim high)) (sym r.1) r.2)).0;
  all = λ z t. let there = (has_is set z).0 t in h.all z (follows_none set low high z size there (inside z there));
}
  where
    at : (xs : List Point) (k : ℕ) (d : Point) → k < length xs → Contains xs (get_or xs k d)
    at [] k d l = absurd (omega (arith, l))
    at (x ∷ xs) zero d l = first_among x xs
    at (x ∷ xs) (suc k) d l = more_among x (get_or xs k d) xs (at xs k d (omega (arith, l)))
