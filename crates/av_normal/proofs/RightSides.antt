-- The right side of a normal variable has the words of the right side that it was brought from.
use Rattle.std.proofs.Common.{◌≡◌, ◌↔◌, ℕ, ◌+◌, ◌≤◌, ◌⊎◌, inl, inr, Bool, true, false, IsTrue, if◌then◌else◌, List, [], ◌∷◌, ◌++◌, length, map, refl, sym, ap, ap₂, subst, ◌∙◌, arith, zero-add, All, nat_eq, None}
use Rattle.std.specs.List.{list_all}
use Rattle.std.proofs.lemmas.List.Folds.{list_all-append}
use Rattle.std.proofs.lemmas.List.Elements.{All-head, All-tail, All-weaker}
use Rattle.av_affine.specs.declared.form.Form.{Form}
use Rattle.av_affine.specs.declared.map.Map.{Map}
use Rattle.av_poly.specs.Points.{Has}
use Rattle.av_tree.specs.Points.{Point}
use Rattle.av_tree.specs.Values.{Assignment}
use Rattle.av_flat.specs.Trees.{Tree, Trees, Piece, Variable, FlatSystem, reference, constant, binary, choice, restriction, cases, dependence, reduction, pick, none, more, trees_of, right_side}
use Rattle.av_flat.specs.Points.{has, holds}
use Rattle.av_flat.specs.Signatures.{Signature, signatures}
use Rattle.av_flat.specs.Counts.{count, count_all}
use Rattle.av_flat.specs.Values.{Scene, HasValue, IsOfBranch}
use Rattle.av_flat.specs.Solutions.{scene}
use Rattle.av_flat.specs.WellFormed.{Fits, FitAll, EachPart, EachPartOfAll, IsInPlace, is_pick, IsWellFormedPiece, IsWellFormedVariable}
use Rattle.av_flat.specs.Pieces.{Part, part, parts, filled, one_where, holding, IsOfPart}
use Rattle.av_flat.proofs.Sets.{both_true, equal, has_is}
use Rattle.av_flat.proofs.Parts.{fitting, pieces_counted}
use Rattle.av_flat.proofs.PieceValues.{words_of_parts}
use Rattle.av_normal.specs.NormalForm.{IsNormalised, HasNormalSets, set_of, AreKeptOf, ended, dropped, kept, IsNormalVariable}
use Rattle.av_normal.proofs.Laid.{Hold, both_of, hold_both, IsLaid, IsLaidPart, Anything, looser, count_one, Own, laid_parts}
use Rattle.av_normal.proofs.PieceWords.{has_normal, cond_same, true_first, laid_any, value_same}

-- ---- kept parts, by recursion on both lists

abbrev pub IsEmpty : ℕ → Part → Type 0
IsEmpty dim p = (z : Point) → Has (set_of dim p) z → ⊥

pub record IsKeptAs (dim : ℕ) (p : Part) (q : Piece) : Type 0 where
  pub point : Point
  pub has_point : Has (set_of dim p) point
  pub normal : IsNormalised (set_of dim p) q.domain
  pub same : HasNormalSets p.tree q.tree

abbrev pub Keep : ℕ → List Part → List Piece → Type 0
Keep dim [] [] = Unit {0}
Keep dim [] (q ∷ qs) = ⊥
Keep dim (p ∷ ps) [] = IsEmpty dim p × Keep dim ps []
Keep dim (p ∷ ps) (q ∷ qs) = (IsEmpty dim p × Keep dim ps (q ∷ qs)) ⊎ (IsKeptAs dim p q × Keep dim ps qs)

pub keep_is : (dim : ℕ) {ps : List Part} {qs : List Piece} → AreKeptOf dim ps qs → Keep dim ps qs
keep_is dim ended = tt
keep_is dim (dropped {qs = []} empty rest) = (empty, keep_is dim rest)
keep_is dim (dropped {qs = q ∷ qs} empty rest) = inl (empty, keep_is dim rest)
keep_is dim (kept z h n s rest) = inr (record { point = z; has_point = h; normal = n; same = s }, keep_is dim rest)

-- a part with the rows of the declared domain, and its reductions with its rows
abbrev pub made : List Form → Part → Part
made rows p = part (rows ++ p.rows) (filled (rows ++ p.rows) p.tree)

abbrev pub restricted : Piece → Tree
restricted p = restriction p.domain p.tree

abbrev pub branches : List Piece → Trees
branches qs = trees_of (map restricted qs)

-- ---- at a point of the declared domain

if_none : (b : Bool) → (IsTrue b → ⊥) → ◌≡◌ {A = ℕ} (if b then 1 else 0) 0
if_none true h = absurd (h refl)
if_none false h = refl

module _ (s : Scene) (M : Map → Type 0) (W : ℕ → Type 0) (dim : ℕ) (rows : List Form) (z : Point) (size : length z ≡ dim) (here : Hold rows z) where
  made_has : (p : Part) → has (set_of dim (made rows p)) z ≡ list_all (holds z) p.rows
  made_has p =
      fitting (length z) dim (list_all (holds z) (rows ++ p.rows)) size
      ∙ list_all-append (holds z) rows p.rows ∙ true_first (list_all (holds z) rows) (list_all (holds z) p.rows) here

  -- an empty part does not hold
  not_here : (p : Part) → IsEmpty dim (made rows p) → Hold p.rows z → ⊥
  not_here p empty h = empty z ((has_is (set_of dim (made rows p)) z).0 (made_has p ∙ h))

  piece_has : (p : Part) (q : Piece) → IsKeptAs dim (made rows p) q → has q.domain z ≡ list_all (holds z) p.rows
  piece_has p q k = has_normal (set_of dim (made rows p)) q.domain z k.normal ∙ made_has p

  laid_made : (p : Part) → IsLaidPart s.variables M W dim p → IsLaid s.variables M W Anything dim (rows ++ p.rows) p.tree
  laid_made p a = looser s.variables M W Anything dim p.rows (rows ++ p.rows) p.tree (λ y e h. (both_of rows p.rows y h).1) a

  piece_count : (p : Part) (q : Piece) → IsLaidPart s.variables M W dim p → IsKeptAs dim (made rows p) q → count s.variables (restricted q) z ≡ one_where z p.rows
  piece_count p q a k =
      cond_same (has q.domain z) (list_all (holds z) p.rows) (count s.variables q.tree z) 1 (piece_has p q k)
      (λ h. count_one s.variables M W Anything dim (rows ++ p.rows) q.tree z (laid_any s.variables M W dim (rows ++ p.rows) p.tree q.tree (laid_made p a) k.same) size (hold_both rows p.rows z here (sym (piece_has p q k) ∙ h)))

  piece_value : (p : Part) (q : Piece) (w : ℕ) → IsLaidPart s.variables M W dim p → IsKeptAs dim (made rows p) q → Hold p.rows z → HasValue s p.tree z w ↔ HasValue s q.tree z w
  piece_value p q w a k h = value_same s M W dim (rows ++ p.rows) p.tree q.tree z w (laid_made p a) k.same size (hold_both rows p.rows z here h)

  pub counted : (ps : List Part) (qs : List Piece) → All (IsLaidPart s.variables M W dim) ps → Keep dim (map (made rows) ps) qs → count_all s.variables (branches qs) z ≡ holding z ps
  counted [] [] a k = refl
  counted [] (q ∷ qs) a k = absurd k
  counted (p ∷ ps) [] a k =
      sym (ap₂ (λ m n. m + n) (if_none (list_all (holds z) p.rows) (not_here p k.0)) (sym (counted ps [] (All-tail (IsLaidPart s.variables M W dim) p ps a) k.1)))
  counted (p ∷ ps) (q ∷ qs) a (inl k) =
      counted ps (q ∷ qs) (All-tail (IsLaidPart s.variables M W dim) p ps a) k.1
      ∙ sym (zero-add (holding z ps)) ∙ ap (λ n. n + holding z ps) (sym (if_none (list_all (holds z) p.rows) (not_here p k.0)))
  counted (p ∷ ps) (q ∷ qs) a (inr k) =
      ap₂ (λ m n. m + n) (piece_count p q (All-head (IsLaidPart s.variables M W dim) p ps a) k.0) (counted ps qs (All-tail (IsLaidPart s.variables M W dim) p ps a) k.1)

  pub words_forth : (ps : List Part) (qs : List Piece) (w : ℕ) → All (IsLaidPart s.variables M W dim) ps → Keep dim (map (made rows) ps) qs → IsOfPart s z ps w → IsOfBranch s (branches qs) z w
  words_forth [] qs w a k h = absurd h
  words_forth (p ∷ ps) [] w a k (inl h) = absurd (not_here p k.0 h.0)
  words_forth (p ∷ ps) [] w a k (inr h) = words_forth ps [] w (All-tail (IsLaidPart s.variables M W dim) p ps a) k.1 h
  words_forth (p ∷ ps) (q ∷ qs) w a (inl k) (inl h) = absurd (not_here p k.0 h.0)
  words_forth (p ∷ ps) (q ∷ qs) w a (inl k) (inr h) = words_forth ps (q ∷ qs) w (All-tail (IsLaidPart s.variables M W dim) p ps a) k.1 h
  words_forth (p ∷ ps) (q ∷ qs) w a (inr k) (inl h) = inl (piece_has p q k.0 ∙ h.0, (piece_value p q w (All-head (IsLaidPart s.variables M W dim) p ps a) k.0 h.0).0 h.1)
  words_forth (p ∷ ps) (q ∷ qs) w a (inr k) (inr h) = inr (words_forth ps qs w (All-tail (IsLaidPart s.variables M W dim) p ps a) k.1 h)

  pub words_back : (ps : List Part) (qs : List Piece) (w : ℕ) → All (IsLaidPart s.variables M W dim) ps → Keep dim (map (made rows) ps) qs → IsOfBranch s (branches qs) z w → IsOfPart s z ps w
  words_back [] [] w a k h = absurd h
  words_back [] (q ∷ qs) w a k h = absurd k
  words_back (p ∷ ps) [] w a k h = absurd h
  words_back (p ∷ ps) (q ∷ qs) w a (inl k) h = inr (words_back ps (q ∷ qs) w (All-tail (IsLaidPart s.variables M W dim) p ps a) k.1 h)
  words_back (p ∷ ps) (q ∷ qs) w a (inr k) (inl h) =
      let hold = sym (piece_has p q k.0) ∙ h.0 in
      inl (hold, (piece_value p q w (All-head (IsLaidPart s.variables M W dim) p ps a) k.0 hold).1 h.1)
  words_back (p ∷ ps) (q ∷ qs) w a (inr k) (inr h) = inr (words_back ps qs w (All-tail (IsLaidPart s.variables M W dim) p ps a) k.1 h)

-- ---- the right side of a well formed variable

pub fit_branches : (vs : List Signature) (n : ℕ) (ps : List Piece) → All (λ p. (p.domain.dim ≡ n) × Fits vs n p.tree) ps → FitAll vs n (branches ps)
fit_branches vs n [] h = tt
fit_branches vs n (p ∷ ps) h =
    let P : Piece → Type 0 = λ q. (q.domain.dim ≡ n) × Fits vs n q.tree in (All-head P p ps h, fit_branches vs n ps (All-tail P p ps h))

pub each_branch : (P : Tree → Type 0) (ps : List Piece) → All (λ p. P (restricted p) × EachPart P p.tree) ps → EachPartOfAll P (branches ps)
each_branch P [] h = tt
each_branch P (p ∷ ps) h = let Q : Piece → Type 0 = λ q. P (restricted q) × EachPart P q.tree in (All-head Q p ps h, each_branch P ps (All-tail Q p ps h))

mutual
  each_part : (P : Tree → Type 0) → ((t : Tree) → P t) → (t : Tree) → EachPart P t
  each_part P f (reference place m) = f (reference place m)
  each_part P f (constant n) = f (constant n)
  each_part P f (binary s l r) = (f (binary s l r), each_part P f l, each_part P f r)
  each_part P f (choice l c r x y) = (f (choice l c r x y), each_part P f l, each_part P f r, each_part P f x, each_part P f y)
  each_part P f (restriction d t) = (f (restriction d t), each_part P f t)
  each_part P f (cases ts) = (f (cases ts), each_part_of_all P f ts)
  each_part P f (dependence m t) = (f (dependence m t), each_part P f t)
  each_part P f (reduction o m t set) = (f (reduction o m t set), each_part P f t)
  each_part P f (pick place choices n) = f (pick place choices n)

  each_part_of_all : (P : Tree → Type 0) → ((t : Tree) → P t) → (ts : Trees) → EachPartOfAll P ts
  each_part_of_all P f none = tt
  each_part_of_all P f (more t ts) = (each_part P f t, each_part_of_all P f ts)

own_any : (t : Tree) → Own Anything Anything t
own_any (reference place m) = tt
own_any (constant n) = tt
own_any (reduction o m t set) = tt
own_any t = tt

-- a point of the declared domain
pub domain_size : (v : Variable) (z : Point) → IsTrue (has v.domain z) → length z ≡ v.domain.dim
domain_size v z h = equal (length z) v.domain.dim (both_true (nat_eq (length z) v.domain.dim) (list_all (holds z) v.domain.rows) h).0

pub domain_holds : (v : Variable) (z : Point) → IsTrue (has v.domain z) → Hold v.domain.rows z
domain_holds v z h = (both_true (nat_eq (length z) v.domain.dim) (list_all (holds z) v.domain.rows) h).1

module _ (s : FlatSystem) (v : Variable) (g : IsWellFormedVariable s v) where
  pub right_fits : Fits (signatures s) v.domain.dim (right_side v)
  right_fits = fit_branches (signatures s) v.domain.dim v.pieces
      (All-weaker (IsWellFormedPiece (signatures s) v) (λ p. (p.domain.dim ≡ v.domain.dim) × Fits (signatures s) v.domain.dim p.tree) (λ p k. (k.dimension, k.tree.fits)) v.pieces g.pieces)

  pub right_in_place : EachPart IsInPlace (right_side v)
  right_in_place = (
    tt,
    each_branch IsInPlace v.pieces
        (All-weaker (IsWellFormedPiece (signatures s) v) (λ p. IsInPlace (restricted p) × EachPart IsInPlace p.tree) (λ p k. (tt, k.tree.reductions)) v.pieces g.pieces),
  )

  pub right_no_pick : EachPart (λ u. is_pick u ≡ false) (right_side v)
  right_no_pick = (
    refl,
    each_branch (λ u. is_pick u ≡ false) v.pieces
        (All-weaker (IsWellFormedPiece (signatures s) v) (λ p. (is_pick (restricted p) ≡ false) × EachPart (λ u. is_pick u ≡ false) p.tree) (λ p k. (refl, k.tree.no_pick)) v.pieces g.pieces),
  )

  module _ (z : Point) (point : IsTrue (has v.domain z)) where
    size : length z ≡ v.domain.dim
    size = domain_size v z point

    few : length z ≤ 4
    few = let most = g.indices in omega (arith, size, most)

    fits_here : Fits (signatures s) (length z) (right_side v)
    fits_here = let P : ℕ → Type 0 = λ n. Fits (signatures s) n (right_side v) in subst P (sym size) right_fits

    laid_here : All (IsLaidPart (signatures s) Anything Anything v.domain.dim) (parts (signatures s) [] (right_side v))
    laid_here =
        let P : ℕ → Type 0 = λ n. All (IsLaidPart (signatures s) Anything Anything n) (parts (signatures s) [] (right_side v)) in
        subst P size (laid_parts (signatures s) Anything Anything [] (right_side v) z few fits_here right_in_place right_no_pick (λ k. absurd (omega (arith, k))) (each_part (Own Anything Anything) own_any (right_side v)) (λ k d l. tt))

    module _ (w : Variable) (n : IsNormalVariable (signatures s) v w) where
      pub right_count : count (signatures s) (right_side w) z ≡ count (signatures s) (right_side v) z
      right_count =
          counted (record { variables = signatures s; words = λ name y. None; width = 0 }) Anything Anything v.domain.dim v.domain.rows z size (domain_holds v z point)
          (parts (signatures s) [] (right_side v)) w.pieces laid_here (keep_is v.domain.dim n.pieces)
          ∙ sym (pieces_counted (signatures s) (right_side v) z few fits_here)

      pub right_value : (u : Assignment) (x : ℕ) → HasValue (scene s u v) (right_side v) z x ↔ HasValue (scene s u v) (right_side w) z x
      right_value u x =
          let same = words_of_parts (scene s u v) (right_side v) z x few fits_here right_in_place right_no_pick in
          let keep = keep_is v.domain.dim n.pieces in (
            (λ h.
                let r = same.0 h in
                (right_count ∙ r.0, words_forth (scene s u v) Anything Anything v.domain.dim v.domain.rows z size (domain_holds v z point) (parts (signatures s) [] (right_side v)) w.pieces x laid_here keep r.1)),
            (λ h. same.1 (
              sym right_count ∙ h.0,
              words_back (scene s u v) Anything Anything v.domain.dim v.domain.rows z size (domain_holds v z point) (parts (signatures s) [] (right_side v)) w.pieces x laid_here keep h.1,
            )),
          )
