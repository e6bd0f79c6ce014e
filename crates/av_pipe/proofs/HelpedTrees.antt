-- Where the helpers have the words of their references, trees have the words that they have without helpers.
use Rattle.std.proofs.Common.{◌≡◌, ◌↔◌, ℕ, zero, suc, ◌+◌, Bool, true, false, ◌&&◌, if◌then◌else◌, IsTrue, nat_eq, inl, inr, Option, Some, None, List, [], ◌∷◌, ◌++◌, length, slice_get, refl, ap, subst, ◌∙◌, arith, length-append}
use Rattle.av_affine.specs.declared.map.Map.{Map}
use Rattle.av_affine.specs.Maps.{image}
use Rattle.av_poly.specs.Points.{Set}
use Rattle.av_tree.specs.Points.{Point}
use Rattle.av_tree.proofs.SameParts.{combined_same, chosen_same}
use Rattle.av_flat.specs.Trees.{Tree, reference, constant, binary, choice, restriction, cases, dependence, reduction, pick}
use Rattle.av_flat.specs.Points.{has}
use Rattle.av_flat.specs.Signatures.{Signature, is_declared_at}
use Rattle.av_flat.specs.Values.{Scene, IsWordAt}
use Rattle.av_flat.specs.WellFormed.{Fits, Leads}
use Rattle.av_flat.proofs.Sets.{equal}
use Rattle.av_flat.specs.declared.timed.Helper.{Helper}
use Rattle.av_flat.specs.Broadcasts.{Reference, references}
use Rattle.av_flat.specs.Chained.{ReadsThere}
use Rattle.av_flat.specs.Helped.{PointWords, HelperWords, HasRead, HasHelped, helped_at}
use Rattle.av_base.proofs.Lists.{get_cases, some_is}

-- ---- lists by place

-- ---- what references read

pub reads_at : (vs : List Signature) (set : Set) (t : Tree) (i : ℕ) (r : Reference) → ReadsThere vs set t → slice_get (references t) i ≡ Some r → (z : Point) → IsTrue (has set z)
    → IsTrue (is_declared_at vs r.place (image r.map.rows z))
reads_at vs set (reference place m) zero r h e z here = subst (λ (x : Reference). IsTrue (is_declared_at vs x.place (image x.map.rows z))) (some_is (record { place = place; map = m }) r e) (h z here)
reads_at vs set (reference place m) (suc i) r h e z here = absurd cc
reads_at vs set (constant k) i r h e z here = absurd cc
reads_at vs set (binary s l q) i r h e z here = elim (get_cases (references l) (references q) i r e) [
  | inl k ↦ reads_at vs set l i r h.0 k z here
  | inr k ↦ reads_at vs set q k.0 r h.1 k.2 z here
]
reads_at vs set (choice l c q x y) i r h e z here = elim (get_cases (references l ++ references q ++ references x) (references y) i r e) [
  | inl k ↦ elim (get_cases (references l ++ references q) (references x) i r k) [
    | inl a ↦ elim (get_cases (references l) (references q) i r a) [
      | inl b ↦ reads_at vs set l i r h.0 b z here
      | inr b ↦ reads_at vs set q b.0 r h.1 b.2 z here
    ]
    | inr a ↦ reads_at vs set x a.0 r h.2 a.2 z here
  ]
  | inr k ↦ reads_at vs set y k.0 r h.3 k.2 z here
]
reads_at vs set (restriction d t) i r h e z here = absurd cc
reads_at vs set (cases ts) i r h e z here = absurd cc
reads_at vs set (dependence m t) i r h e z here = absurd cc
reads_at vs set (reduction o m t inner) i r h e z here = absurd cc
reads_at vs set (pick place choices n) i r h e z here = absurd cc

pub fits_at : (vs : List Signature) (n : ℕ) (t : Tree) (i : ℕ) (r : Reference) → Fits vs n t → slice_get (references t) i ≡ Some r → Leads vs n r.map r.place
fits_at vs n (reference place m) zero r h e = subst (λ (x : Reference). Leads vs n x.map x.place) (some_is (record { place = place; map = m }) r e) h
fits_at vs n (reference place m) (suc i) r h e = absurd cc
fits_at vs n (constant k) i r h e = absurd cc
fits_at vs n (binary s l q) i r h e = elim (get_cases (references l) (references q) i r e) [
  | inl k ↦ fits_at vs n l i r h.0 k
  | inr k ↦ fits_at vs n q k.0 r h.1 k.2
]
fits_at vs n (choice l c q x y) i r h e = elim (get_cases (references l ++ references q ++ references x) (references y) i r e) [
  | inl k ↦ elim (get_cases (references l ++ references q) (references x) i r k) [
    | inl a ↦ elim (get_cases (references l) (references q) i r a) [
      | inl b ↦ fits_at vs n l i r h.0 b
      | inr b ↦ fits_at vs n q b.0 r h.1 b.2
    ]
    | inr a ↦ fits_at vs n x a.0 r h.2 a.2
  ]
  | inr k ↦ fits_at vs n y k.0 r h.3 k.2
]
fits_at vs n (restriction d t) i r h e = absurd cc
fits_at vs n (cases ts) i r h e = absurd cc
fits_at vs n (dependence m t) i r h e = absurd cc
fits_at vs n (reduction o m t inner) i r h e = absurd cc
fits_at vs n (pick place choices k) i r h e = absurd cc

-- ---- words of trees

module _ (s : Scene) (h : ℕ → Option PointWords) (z : Point) where
  -- a helper of this reference has its word
  abbrev pub IsRight : ℕ → Reference → Type 0
  IsRight n r = (words : PointWords) → h n ≡ Some words → (w : ℕ) → (words z ≡ Some w) ↔ IsWordAt s r.place (image r.map.rows z) w

  abbrev pub AreRight : ℕ → List Reference → Type 0
  AreRight n [] = Unit {0}
  AreRight n (r ∷ rs) = IsRight n r × AreRight (suc n) rs

  pub right_by_place : (n : ℕ) (rs : List Reference) → ((i : ℕ) (r : Reference) → slice_get rs i ≡ Some r → IsRight (n + i) r) → AreRight n rs
  right_by_place n [] f = tt
  right_by_place n (r ∷ rs) f = (
    subst (λ (k : ℕ). IsRight k r) (omega arith) (f 0 r refl),
    right_by_place (suc n) rs (λ i q e. subst (λ (k : ℕ). IsRight k q) (omega arith) (f (suc i) q e)),
  )

  right_parts : (n : ℕ) (xs ys : List Reference) → AreRight n (xs ++ ys) → AreRight n xs × AreRight (n + length xs) ys
  right_parts n [] ys p = (tt, subst (λ (k : ℕ). AreRight k ys) (omega arith) p)
  right_parts n (x ∷ xs) ys p = let r = right_parts (suc n) xs ys p.1 in ((p.0, r.0), subst (λ (k : ℕ). AreRight k ys) (omega arith) r.1)

  read_same : (n place : ℕ) (m : Map) → IsRight n (record { place = place; map = m }) → (w : ℕ) → IsWordAt s place (image m.rows z) w ↔ HasRead s place m (h n) z w
  read_same n place m r w = go (h n) refl
    where
      go : (o : Option PointWords) → h n ≡ o → IsWordAt s place (image m.rows z) w ↔ HasRead s place m o z w
      go None e = ((λ p. p), (λ p. p))
      go (Some words) e = let q = r words e w in (q.1, q.0)

  pub helped_same : (n : ℕ) (t : Tree) → AreRight n (references t) → (w : ℕ) → HasHelped s (λ i. None) n t z w ↔ HasHelped s h n t z w
  helped_same n (reference place m) r w = read_same n place m r.0 w
  helped_same n (constant k) r w = ((λ p. p), (λ p. p))
  helped_same n (binary g l q) r w =
      let two = right_parts n (references l) (references q) r in
      combined_same _ _ _ _ _ w (λ v. helped_same n l two.0 v) (λ v. helped_same (n + length (references l)) q two.1 v)
  helped_same n (choice l c q x y) r w =
      let last = right_parts n (references l ++ references q ++ references x) (references y) r in
      let third = right_parts n (references l ++ references q) (references x) last.0 in
      let sides = right_parts n (references l) (references q) third.0 in
      chosen_same _ _ _ _ _ _ _ _ _ w
      (λ v. helped_same n l sides.0 v)
      (λ v. helped_same (n + length (references l)) q sides.1 v)
      (λ v. helped_same (n + length (references l) + length (references q)) x (subst (λ (k : ℕ). AreRight k (references x)) (simp length-append (omega arith)) third.1) v)
      (λ v. helped_same (n + length (references l) + length (references q) + length (references x)) y (subst (λ (k : ℕ). AreRight k (references y)) (simp length-append (omega arith)) last.1) v)
  helped_same n (restriction d t) r w = ((λ p. p), (λ p. p))
  helped_same n (cases ts) r w = ((λ p. p), (λ p. p))
  helped_same n (dependence m t) r w = ((λ p. p), (λ p. p))
  helped_same n (reduction o m t inner) r w = ((λ p. p), (λ p. p))
  helped_same n (pick place choices k) r w = ((λ p. p), (λ p. p))

-- the words of a reference's helper are those of a helper in the list
pub record IsOfHelper (hs : List Helper) (g : HelperWords) (j place piece site : ℕ) (words : PointWords) : Type 0 where
  pub number : ℕ
  pub helper : Helper
  pub is : slice_get hs number ≡ Some helper
  pub place_is : helper.var ≡ place
  pub piece_is : helper.piece ≡ piece
  pub site_is : helper.site ≡ site
  pub words_are : g (j + number) ≡ words

pub of_helper : (hs : List Helper) (g : HelperWords) (j place piece site : ℕ) (words : PointWords) → helped_at hs g j place piece site ≡ Some words → IsOfHelper hs g j place piece site words
of_helper [] g j place piece site words e = absurd cc
of_helper (h ∷ hs) g j place piece site words e = go (nat_eq h.var place) (nat_eq h.piece piece) (nat_eq h.site site) refl refl refl e (of_helper hs g (suc j) place piece site words)
  where
    later : IsOfHelper hs g (suc j) place piece site words → IsOfHelper (h ∷ hs) g j place piece site words
    later r = record {
      number = suc r.number;
      helper = r.helper;
      is = r.is;
      place_is = r.place_is;
      piece_is = r.piece_is;
      site_is = r.site_is;
      words_are = ap g (omega arith) ∙ r.words_are;
    }

    go : (a b c : Bool) → nat_eq h.var place ≡ a → nat_eq h.piece piece ≡ b → nat_eq h.site site ≡ c
        → (if a && b && c then Some (g j) else helped_at hs g (suc j) place piece site) ≡ Some words
        → (helped_at hs g (suc j) place piece site ≡ Some words → IsOfHelper hs g (suc j) place piece site words) → IsOfHelper (h ∷ hs) g j place piece site words
    go true true true p q r f k = record {
      number = 0;
      helper = h;
      is = refl;
      place_is = equal h.var place p;
      piece_is = equal h.piece piece q;
      site_is = equal h.site site r;
      words_are = ap g (omega arith) ∙ some_is (g j) words f;
    }
    go true true false p q r f k = later (k f)
    go true false c p q r f k = later (k f)
    go false b c p q r f k = later (k f)
