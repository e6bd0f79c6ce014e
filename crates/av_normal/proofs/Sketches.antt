-- The parts of trees without their trees: rows, and whether a reduction is there.
use Rattle.std.proofs.Common.{◌≡◌, ℕ, zero, suc, ◌<◌, Bool, true, false, ◌||◌, List, [], ◌∷◌, ◌++◌, map, length, get_or, slice_get, refl, sym, ap, ap₂, subst, arith, ◌∙◌}
use Rattle.std.specs.List.{flat_map}
use Rattle.std.proofs.lemmas.List.{append_assoc, append-nil, map-append, length-map}
use Rattle.av_base.specs.declared.word.Op.{Op}
use Rattle.av_affine.specs.declared.form.Form.{Form}
use Rattle.av_affine.specs.declared.map.Map.{Map}
use Rattle.av_poly.specs.Points.{Set}
use Rattle.av_poly.specs.Preimages.{rows_before}
use Rattle.av_tree.specs.declared.relation.Relation.{Relation}
use Rattle.av_tree.specs.declared.sign.Sign.{Sign}
use Rattle.av_flat.specs.declared.tree.Tree.{Tree as TreeMade}
use Rattle.av_flat.specs.Trees.{Tree, reference, constant, binary, choice, restriction, reduction, trees_of, view}
use Rattle.av_flat.specs.Signatures.{Signature}
use Rattle.av_flat.specs.Pieces.{Part, part, composed, rows_of, parts, parts_of_all, in_pairs, in_fours, with_rows}
use Rattle.av_flat.specs.Quantities.{piece_count}
use Rattle.av_flat.proofs.Parts.{length_parts}
use Rattle.av_normal.specs.inner.Numbered.{part_at}
use Rattle.av_normal.specs.inner.ReductionSets.{has_reduction}
use Rattle.av_normal.specs.inner.UnderMaps.{AreReadable, IsReadable}
use Rattle.av_normal.specs.inner.Sketches.{sketched, sketches, beside, side_by_side}

abbrev Sketched : Type 0
Sketched = List Form × Bool

-- ---- operands

module _ (s : Sign) where
  row_of_pairs : (p : Part) (qs : List Part) → map sketched (map (λ (q : Part). part (p.rows ++ q.rows) (binary s p.tree q.tree)) qs) ≡ map (beside (sketched p)) (map sketched qs)
  row_of_pairs p [] = refl
  row_of_pairs p (q ∷ qs) = ap (λ (xs : List Sketched). beside (sketched p) (sketched q) ∷ xs) (row_of_pairs p qs)

  pub sketched_pairs : (ps qs : List Part) → map sketched (in_pairs (binary s) ps qs) ≡ side_by_side (map sketched ps) (map sketched qs)
  sketched_pairs [] qs = refl
  sketched_pairs (p ∷ ps) qs =
      map-append sketched (map (λ (q : Part). part (p.rows ++ q.rows) (binary s p.tree q.tree)) qs) (in_pairs (binary s) ps qs)
      ∙ ap₂ (λ (xs ys : List Sketched). xs ++ ys) (row_of_pairs p qs) (sketched_pairs ps qs)

module _ (c : Relation) (qs rs ss : List Part) where
  abbrev of_four : Part → Part → Part → Part → Part
  of_four p q r s = part (p.rows ++ q.rows ++ r.rows ++ s.rows) (choice p.tree c q.tree r.tree s.tree)

  abbrev of_three : Part → Part → Part → List Part
  of_three p q r = map (of_four p q r) ss

  abbrev of_two : Part → Part → List Part → List Part
  of_two p q rs = flat_map (of_three p q) rs

  abbrev last_two : List Part → List Sketched
  last_two rs = side_by_side (map sketched rs) (map sketched ss)

  four_beside : (p q r s : Part) → sketched (of_four p q r s) ≡ beside (sketched p) (beside (sketched q) (beside (sketched r) (sketched s)))
  four_beside p q r s =
      ap (λ (rows : List Form). (rows, has_reduction p.tree || (has_reduction q.tree || (has_reduction r.tree || has_reduction s.tree))))
      (append_assoc (p.rows ++ q.rows) r.rows s.rows ∙ append_assoc p.rows q.rows (r.rows ++ s.rows))

  row_of_three : (p q r : Part) (ss : List Part) → map sketched (map (of_four p q r) ss) ≡ map (beside (sketched p)) (map (beside (sketched q)) (map (beside (sketched r)) (map sketched ss)))
  row_of_three p q r [] = refl
  row_of_three p q r (s ∷ ss) = ap₂ (λ (x : Sketched) (xs : List Sketched). x ∷ xs) (four_beside p q r s) (row_of_three p q r ss)

  row_of_two : (p q : Part) (rs : List Part) → map sketched (of_two p q rs) ≡ map (beside (sketched p)) (map (beside (sketched q)) (last_two rs))
  row_of_two p q [] = refl
  row_of_two p q (r ∷ rs) =
      let here = map (beside (sketched r)) (map sketched ss) in
      map-append sketched (of_three p q r) (of_two p q rs)
      ∙ ap₂ (λ (xs ys : List Sketched). xs ++ ys) (row_of_three p q r ss) (row_of_two p q rs)
      ∙ sym (ap (map (beside (sketched p))) (map-append (beside (sketched q)) here (last_two rs)) ∙ map-append (beside (sketched p)) (map (beside (sketched q)) here) (map (beside (sketched q)) (last_two rs)))

  row_of_one : (p : Part) (qs : List Part) → map sketched (flat_map (λ (q : Part). of_two p q rs) qs) ≡ map (beside (sketched p)) (side_by_side (map sketched qs) (last_two rs))
  row_of_one p [] = refl
  row_of_one p (q ∷ qs) =
      map-append sketched (of_two p q rs) (flat_map (λ (q : Part). of_two p q rs) qs)
      ∙ ap₂ (λ (xs ys : List Sketched). xs ++ ys) (row_of_two p q rs) (row_of_one p qs)
      ∙ sym (map-append (beside (sketched p)) (map (beside (sketched q)) (last_two rs)) (side_by_side (map sketched qs) (last_two rs)))

  pub sketched_fours : (ps : List Part) → map sketched (in_fours (λ p q. choice p c q) ps qs rs ss) ≡ side_by_side (map sketched ps) (side_by_side (map sketched qs) (side_by_side (map sketched rs) (map sketched ss)))
  sketched_fours [] = refl
  sketched_fours (p ∷ ps) =
      map-append sketched (flat_map (λ (q : Part). of_two p q rs) qs) (in_fours (λ p q. choice p c q) ps qs rs ss)
      ∙ ap₂ (λ (xs ys : List Sketched). xs ++ ys) (row_of_one p qs) (sketched_fours ps)

-- ---- restrictions

pub sketched_behind : (rows : List Form) (ps : List Part) → map sketched (with_rows rows ps) ≡ side_by_side ((rows, false) ∷ []) (map sketched ps)
sketched_behind rows ps = go ps ∙ sym (append-nil (map (beside (rows, false)) (map sketched ps)))
  where
    go : (ps : List Part) → map sketched (with_rows rows ps) ≡ map (beside (rows, false)) (map sketched ps)
    go [] = refl
    go (p ∷ ps) = ap (λ (xs : List Sketched). beside (rows, false) (sketched p) ∷ xs) (go ps)

-- ---- branches

module _ (vs : List Signature) (ds : List Map) where
  pub parts_of_more : (ts : List TreeMade) (t : TreeMade) → parts_of_all vs ds (trees_of (map view (ts ++ t ∷ []))) ≡ parts_of_all vs ds (trees_of (map view ts)) ++ parts vs ds (view t)
  parts_of_more [] t = append-nil (parts vs ds (view t))
  parts_of_more (u ∷ ts) t =
      ap (λ (ps : List Part). parts vs ds (view u) ++ ps) (parts_of_more ts t) ∙ sym (append_assoc (parts vs ds (view u)) (parts_of_all vs ds (trees_of (map view ts))) (parts vs ds (view t)))

  pub readable_more : (ts : List TreeMade) (t : TreeMade) → AreReadable vs ds (trees_of (map view ts)) → IsReadable vs ds (view t) → AreReadable vs ds (trees_of (map view (ts ++ t ∷ [])))
  readable_more [] t h k = (k, tt)
  readable_more (u ∷ ts) t h k = (h.0, readable_more ts t h.1 k)

  pub sketched_more : (ts : List TreeMade) (t : TreeMade) → map sketched (parts_of_all vs ds (trees_of (map view (ts ++ t ∷ [])))) ≡ map sketched (parts_of_all vs ds (trees_of (map view ts))) ++ sketches vs ds (view t)
  sketched_more ts t = ap (map sketched) (parts_of_more ts t) ∙ map-append sketched (parts_of_all vs ds (trees_of (map view ts))) (parts vs ds (view t))

-- ---- a part by its number

pub sketch_at : (ps qs : List Part) (number : ℕ) → number < length ps → map sketched ps ≡ map sketched qs → sketched (part_at ps number) ≡ sketched (part_at qs number)
sketch_at [] qs number l e = absurd (omega (arith, l))
sketch_at (p ∷ ps) [] number l e = absurd cc
sketch_at (p ∷ ps) (q ∷ qs) zero l e = cc
sketch_at (p ∷ ps) (q ∷ qs) (suc number) l e = let rest : map sketched ps ≡ map sketched qs = cc in sketch_at ps qs number (omega (arith, l)) rest

module _ (vs : List Signature) (s t : Tree) (e : sketches [] [] s ≡ sketches vs [] t) where
  pub same_count : piece_count s ≡ piece_count t
  same_count =
      let a = length_parts [] [] s in
      let b = length_parts vs [] t in
      let c = length-map (parts [] [] s) sketched in
      let d = length-map (parts vs [] t) sketched in
      let f = ap (λ (xs : List Sketched). length xs) e in
      omega (arith, a, b, c, d, f)

  pub same_sketch : (number : ℕ) → number < piece_count t → sketched (part_at (parts [] [] s) number) ≡ sketched (part_at (parts vs [] t) number)
  same_sketch number l =
      let a = length_parts [] [] s in
      let n = same_count in
      sketch_at (parts [] [] s) (parts vs [] t) number (omega (arith, l, a, n)) e

-- ---- trees as they are made

pub restricted_sketch : (t u : Tree) (d : Set) (rows : List Form) → t ≡ restriction d u → u ≡ constant 0 → d.rows ≡ rows → sketches [] [] t ≡ (rows, false) ∷ []
restricted_sketch t u d rows e f g = rw (e, f) (ap (λ (rows : List Form). (rows, false) ∷ []) (append-nil d.rows ∙ g))

pub restricted_readable : (t u : Tree) (d : Set) → t ≡ restriction d u → u ≡ constant 0 → IsReadable [] [] t
restricted_readable t u d e f = rw (e, f) (record { chained = tt; narrow = tt; fits = tt; rows = tt }, tt)

pub paired_sketch : (s : Sign) (t l r a b : Tree) → t ≡ binary s l r → l ≡ a → r ≡ b → sketches [] [] t ≡ side_by_side (sketches [] [] a) (sketches [] [] b)
paired_sketch s t l r a b e f g = rw (e, f, g) (sketched_pairs s (parts [] [] a) (parts [] [] b))

pub paired_readable : (s : Sign) (t l r a b : Tree) → t ≡ binary s l r → l ≡ a → r ≡ b → IsReadable [] [] a → IsReadable [] [] b → IsReadable [] [] t
paired_readable s t l r a b e f g h k = rw (e, f, g) (h, k)

pub folded_sketch : (o : Op) (m : Map) (t u : Tree) (set : Set) → t ≡ reduction o m u set → sketches [] [] t ≡ ([], true) ∷ []
folded_sketch o m t u set e = rw e refl

pub folded_readable : (o : Op) (m : Map) (t u : Tree) (set : Set) → t ≡ reduction o m u set → u ≡ constant 0 → IsReadable [] [] t
folded_readable o m t u set e f = rw (e, f) (refl, tt)

pub reference_sketch : (vs : List Signature) (ds : List Map) (place : ℕ) (m whole : Map) (old new : List Form) → old ≡ [] → whole ≡ composed m ds → new ≡ old ++ rows_before whole (rows_of (slice_get vs place))
    → (new, false) ∷ [] ≡ sketches vs ds (reference place m)
reference_sketch vs ds place m whole old new none is e =
    ap (λ (rows : List Form). (rows, false) ∷ [])
    (e ∙ ap (λ (rows : List Form). rows ++ rows_before whole (rows_of (slice_get vs place))) none ∙ ap (λ (w : Map). rows_before w (rows_of (slice_get vs place))) is)

pub readable_at : (vs : List Signature) (ds : List Map) (ts : List TreeMade) (i : ℕ) (t : TreeMade) → i < length ts → t ≡ get_or ts i t → AreReadable vs ds (trees_of (map view ts)) → IsReadable vs ds (view t)
readable_at vs ds [] i t l e h = absurd (omega (arith, l))
readable_at vs ds (u ∷ ts) zero t l e h = subst (λ (x : TreeMade). IsReadable vs ds (view x)) (sym e) h.0
readable_at vs ds (u ∷ ts) (suc i) t l e h = readable_at vs ds ts i t (omega (arith, l)) e h.1
