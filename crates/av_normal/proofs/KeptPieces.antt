-- What makes a kept piece kept: its tree is plain, within the limits, and reads declared points alone.
use Rattle.std.proofs.Common.{◌≡◌, ℕ, inl, inr, false, IsTrue, nat_eq, pos, List, [], ◌∷◌, ◌++◌, length, map, replicate, refl, sym, subst, ◌∙◌, arith, All}
use Rattle.std.specs.List.{list_all}
use Rattle.std.proofs.lemmas.List.{length-replicate}
use Rattle.std.proofs.lemmas.List.Elements.{All-nil, All-cons, All-head, All-tail, All-weaker}
use Rattle.av_base.specs.Words.{IsWord}
use Rattle.av_affine.specs.declared.form.Form.{Form}
use Rattle.av_affine.specs.declared.map.Map.{Map}
use Rattle.av_affine.specs.Forms.{IsWithinLimits}
use Rattle.av_base.specs.declared.word.Op.{Op}
use Rattle.av_tree.specs.declared.relation.Relation.{Relation}
use Rattle.av_tree.specs.declared.sign.Sign.{Sign}
use Rattle.av_poly.specs.Points.{Set}
use Rattle.av_tree.specs.Points.{Point}
use Rattle.av_flat.specs.Trees.{Tree, Trees, Piece, Variable, FlatSystem, reference, constant, binary, choice, restriction, cases, dependence, reduction, pick, none, more, right_side}
use Rattle.av_flat.specs.Points.{has, holds}
use Rattle.av_flat.specs.Signatures.{Signature, signatures}
use Rattle.av_flat.specs.Sets.{HasFewRows}
use Rattle.av_flat.specs.WellFormed.{Fits, EachPart, EachPartOfAll, IsInPlace, HasSmallRows, HasWords, is_case, is_pick, IsWellFormedPiece, IsWellFormedVariable}
use Rattle.av_flat.specs.Kept.{IsPlain, ReadsDeclared, HasFewOwnRows, LiesOver, IsKeptPiece}
use Rattle.av_flat.specs.Quantities.{of_set, composed_maps, body_sets}
use Rattle.av_flat.specs.Pieces.{Part, parts}
use Rattle.av_flat.proofs.Sets.{both_true, both_hold, equal, has_is}
use Rattle.av_normal.specs.NormalForm.{IsNormalised, set_of, IsNormalVariable}
use Rattle.av_normal.proofs.Laid.{both_of, IsReduced, IsLaid, IsLaidPart, Anything, looser, Own, laid_parts}
use Rattle.av_normal.proofs.HeldSets.{lies_over}
use Rattle.av_normal.proofs.PieceWords.{hold_normal, has_normal, laid_normal}
use Rattle.av_normal.proofs.RightSides.{IsKeptAs, Keep, keep_is, made, restricted, each_branch, right_fits, right_in_place, right_no_pick}
use Rattle.av_normal.proofs.Limits.{IsWithin, AllFit, small_set, few_set}

-- ---- trees of kept pieces

module _ (vs : List Signature) (M : Map → Type 0) (W : ℕ → Type 0) (S : Set → Type 0) where
  pub laid_fits : (n : ℕ) (rows : List Form) (t : Tree) → IsLaid vs M W S n rows t → Fits vs n t
  laid_fits n rows (reference place m) a = a.leads
  laid_fits n rows (constant k) a = tt
  laid_fits n rows (binary s l r) a = (laid_fits n rows l a.0, laid_fits n rows r a.1)
  laid_fits n rows (choice l c r x y) a = (laid_fits n rows l a.0, laid_fits n rows r a.1, laid_fits n rows x a.2, laid_fits n rows y a.3)
  laid_fits n rows (reduction o m t set) a = (a.0.results, a.0.few, a.0.dimension, laid_fits m.from set.rows t a.1)
  laid_fits n rows t a = absurd a

  pub laid_reads : (set : Set) (t : Tree) → IsLaid vs M W S set.dim set.rows t → ReadsDeclared vs set t
  laid_reads set (reference place m) a = λ z h.
      let p = both_true (nat_eq (length z) set.dim) (list_all (holds z) set.rows) h in a.declared z (equal (length z) set.dim p.0) p.1
  laid_reads set (constant k) a = tt
  laid_reads set (binary s l r) a = (laid_reads set l a.0, laid_reads set r a.1)
  laid_reads set (choice l c r x y) a = (laid_reads set l a.0, laid_reads set r a.1, laid_reads set x a.2, laid_reads set y a.3)
  laid_reads set (reduction o m t inner) a = laid_reads inner t (let P : ℕ → Type 0 = λ n. IsLaid vs M W S n inner.rows t in subst P (sym a.0.dimension) a.1)
  laid_reads set t a = absurd a

  -- what holds of each node holds of each part
  pub record OfNodes (P : Tree → Type 0) : Type 0 where
    pub of_reference : (place : ℕ) (m : Map) → M m → P (reference place m)
    pub of_constant : (k : ℕ) → W k → P (constant k)
    pub of_binary : (s : Sign) (l r : Tree) → P (binary s l r)
    pub of_choice : (l : Tree) (c : Relation) (r x y : Tree) → P (choice l c r x y)
    pub of_reduction : (n : ℕ) (o : Op) (m : Map) (t : Tree) (set : Set) → IsReduced M S n m set → IsLaid vs M W S m.from set.rows t → P (reduction o m t set)

  pub laid_each : (P : Tree → Type 0) → OfNodes P → (n : ℕ) (rows : List Form) (t : Tree) → IsLaid vs M W S n rows t → EachPart P t
  laid_each P f n rows (reference place m) a = f.of_reference place m a.map_is
  laid_each P f n rows (constant k) a = f.of_constant k a
  laid_each P f n rows (binary s l r) a = (f.of_binary s l r, laid_each P f n rows l a.0, laid_each P f n rows r a.1)
  laid_each P f n rows (choice l c r x y) a =
      (f.of_choice l c r x y, laid_each P f n rows l a.0, laid_each P f n rows r a.1, laid_each P f n rows x a.2, laid_each P f n rows y a.3)
  laid_each P f n rows (reduction o m t set) a = (f.of_reduction n o m t set a.0 a.1, laid_each P f m.from set.rows t a.1)
  laid_each P f n rows t a = absurd a

  pub laid_caseless : (n : ℕ) (rows : List Form) (t : Tree) → IsLaid vs M W S n rows t → EachPart (λ u. is_case u ≡ false) t
  laid_caseless = laid_each (λ u. is_case u ≡ false)
      (record { of_reference = λ place m a. refl; of_constant = λ k a. refl; of_binary = λ s l r. refl; of_choice = λ l c r x y. refl; of_reduction = λ n o m t set a b. refl })

  pub laid_no_pick : (n : ℕ) (rows : List Form) (t : Tree) → IsLaid vs M W S n rows t → EachPart (λ u. is_pick u ≡ false) t
  laid_no_pick = laid_each (λ u. is_pick u ≡ false)
      (record { of_reference = λ place m a. refl; of_constant = λ k a. refl; of_binary = λ s l r. refl; of_choice = λ l c r x y. refl; of_reduction = λ n o m t set a b. refl })

  pub laid_plain : (n : ℕ) (rows : List Form) (t : Tree) → IsLaid vs M W S n rows t → EachPart IsPlain t
  laid_plain = laid_each IsPlain (record {
    of_reference = λ place m a. (refl, refl, refl);
    of_constant = λ k a. (refl, refl, refl);
    of_binary = λ s l r. (refl, refl, refl);
    of_choice = λ l c r x y. (refl, refl, refl);
    of_reduction = λ n o m t set a b. (refl, refl, refl);
  })

  pub laid_in_place : (n : ℕ) (rows : List Form) (t : Tree) → IsLaid vs M W S n rows t → EachPart IsInPlace t
  laid_in_place = laid_each IsInPlace (record {
    of_reference = λ place m a. tt;
    of_constant = λ k a. tt;
    of_binary = λ s l r. tt;
    of_choice = λ l c r x y. tt;
    of_reduction = λ n o m t set a b. (a.projection, laid_caseless m.from set.rows t b);
  })

-- ---- within the limits

abbrev pub SmallMap : Map → Type 0
SmallMap m = All IsWithinLimits m.rows

pub record SmallSet (set : Set) : Type 0 where
  pub small : All IsWithinLimits set.rows
  pub few : HasFewRows set

module _ (vs : List Signature) (width : ℕ) where
  pub laid_words : (n : ℕ) (rows : List Form) (t : Tree) → IsLaid vs SmallMap (IsWord width) SmallSet n rows t → EachPart (HasWords width) t
  laid_words = laid_each vs SmallMap (IsWord width) SmallSet (HasWords width)
      (record { of_reference = λ place m a. tt; of_constant = λ k a. a; of_binary = λ s l r. tt; of_choice = λ l c r x y. tt; of_reduction = λ n o m t set a b. tt })

  pub laid_small : (n : ℕ) (rows : List Form) (t : Tree) → IsLaid vs SmallMap (IsWord width) SmallSet n rows t → EachPart HasSmallRows t
  laid_small = laid_each vs SmallMap (IsWord width) SmallSet HasSmallRows
      (record { of_reference = λ place m a. a; of_constant = λ k a. tt; of_binary = λ s l r. tt; of_choice = λ l c r x y. tt; of_reduction = λ n o m t set a b. (a.map_is, a.set_is.small) })

  pub laid_few : (n : ℕ) (rows : List Form) (t : Tree) → IsLaid vs SmallMap (IsWord width) SmallSet n rows t → EachPart HasFewOwnRows t
  laid_few = laid_each vs SmallMap (IsWord width) SmallSet HasFewOwnRows
      (record { of_reference = λ place m a. tt; of_constant = λ k a. tt; of_binary = λ s l r. tt; of_choice = λ l c r x y. tt; of_reduction = λ n o m t set a b. a.set_is.few })

  own_of : (t : Tree) → HasSmallRows t → HasWords width t → Own SmallMap (IsWord width) t
  own_of (reference place m) h k = h
  own_of (constant n) h k = k
  own_of (reduction o m t set) h k = h.0
  own_of (binary s l r) h k = tt
  own_of (choice l c r x y) h k = tt
  own_of (restriction d t) h k = tt
  own_of (cases ts) h k = tt
  own_of (dependence m t) h k = tt
  own_of (pick place choices n) h k = tt

module _ (P Q R : Tree → Type 0) (f : (t : Tree) → P t → Q t → R t) where
  mutual
    each_both : (t : Tree) → EachPart P t → EachPart Q t → EachPart R t
    each_both (reference place m) p q = f (reference place m) p q
    each_both (constant n) p q = f (constant n) p q
    each_both (binary s l r) p q = (f (binary s l r) p.0 q.0, each_both l p.1 q.1, each_both r p.2 q.2)
    each_both (choice l c r x y) p q = (f (choice l c r x y) p.0 q.0, each_both l p.1 q.1, each_both r p.2 q.2, each_both x p.3 q.3, each_both y p.4 q.4)
    each_both (restriction d t) p q = (f (restriction d t) p.0 q.0, each_both t p.1 q.1)
    each_both (cases ts) p q = (f (cases ts) p.0 q.0, each_both_of_all ts p.1 q.1)
    each_both (dependence m t) p q = (f (dependence m t) p.0 q.0, each_both t p.1 q.1)
    each_both (reduction o m t set) p q = (f (reduction o m t set) p.0 q.0, each_both t p.1 q.1)
    each_both (pick place choices n) p q = f (pick place choices n) p q

    each_both_of_all : (ts : Trees) → EachPartOfAll P ts → EachPartOfAll Q ts → EachPartOfAll R ts
    each_both_of_all none p q = tt
    each_both_of_all (more t ts) p q = (each_both t p.0 q.0, each_both_of_all ts p.1 q.1)

-- ---- pieces of a variable

-- a piece of a domain of this dimension and these rows
pub record IsFine (vs : List Signature) (width dim : ℕ) (rows : List Form) (q : Piece) : Type 0 where
  pub dimension : q.domain.dim ≡ dim
  pub small : All IsWithinLimits q.domain.rows
  pub few : HasFewRows q.domain
  pub within : (z : Point) → IsTrue (has q.domain z) → IsTrue (has (record { dim = dim; rows = rows }) z)
  pub point : Point
  pub has_point : IsTrue (has q.domain point)
  pub laid : IsLaid vs SmallMap (IsWord width) SmallSet q.domain.dim q.domain.rows q.tree
  pub over : LiesOver q.domain q.tree

module _ (vs : List Signature) (width dim : ℕ) (rows : List Form) where
  abbrev FitsPart : Part → Type 0
  FitsPart p = IsWithin (of_set (set_of dim p))

  abbrev FitBodies : Part → Type 0
  FitBodies p = All (λ set. IsWithin (of_set set)) (body_sets p.tree)

  fine_piece : (p : Part) (q : Piece) → IsLaidPart vs SmallMap (IsWord width) dim p → IsKeptAs dim (made rows p) q → FitsPart (made rows p) → FitBodies (made rows p) → IsFine vs width dim rows q
  fine_piece p q a k f b =
      let all = rows ++ p.rows in
      let n = k.normal in
      let laid = laid_normal vs SmallMap (IsWord width) SmallSet dim all p.tree q.tree (looser vs SmallMap (IsWord width) Anything dim p.rows all p.tree (λ y e h. (both_of rows p.rows y h).1) a) k.same
      (All-weaker (λ set. IsWithin (of_set set)) (λ set. (inner : Set) → IsNormalised set inner → SmallSet inner)
      (λ set fits inner normal. record { small = small_set set inner normal fits; few = few_set set inner normal fits }) (body_sets (made rows p).tree) b) in
      let own = looser vs SmallMap (IsWord width) SmallSet dim all q.domain.rows q.tree (λ z e h. sym (hold_normal (set_of dim (made rows p)) q.domain z n e) ∙ h) laid in
      record {
        dimension = n.dim;
        small = small_set (set_of dim (made rows p)) q.domain n f;
        few = few_set (set_of dim (made rows p)) q.domain n f;
        within = λ z h.
            let h = sym (has_normal (set_of dim (made rows p)) q.domain z n) ∙ h in
            let r = both_true (nat_eq (length z) dim) (list_all (holds z) all) h in
            both_hold (nat_eq (length z) dim) (list_all (holds z) rows) r.0 (both_of rows p.rows z r.1).0;
        point = k.point;
        has_point = has_normal (set_of dim (made rows p)) q.domain k.point n ∙ (has_is (set_of dim (made rows p)) k.point).1 k.has_point;
        laid = (let P : ℕ → Type 0 = λ d. IsLaid vs SmallMap (IsWord width) SmallSet d q.domain.rows q.tree in subst P (sym n.dim) own);
        over = lies_over vs SmallMap (IsWord width) Anything dim p.rows all q.domain p.tree q.tree a n.rows k.same;
      }

  fine_pieces : (ps : List Part) (qs : List Piece) → All (IsLaidPart vs SmallMap (IsWord width) dim) ps → Keep dim (map (made rows) ps) qs
      → All FitsPart (map (made rows) ps) → All FitBodies (map (made rows) ps) → All (IsFine vs width dim rows) qs
  fine_pieces [] [] a k f b = All-nil (IsFine vs width dim rows)
  fine_pieces [] (q ∷ qs) a k f b = absurd k
  fine_pieces (p ∷ ps) [] a k f b = All-nil (IsFine vs width dim rows)
  fine_pieces (p ∷ ps) (q ∷ qs) a (inl k) f b =
      fine_pieces ps (q ∷ qs) (All-tail (IsLaidPart vs SmallMap (IsWord width) dim) p ps a) k.1
      (All-tail FitsPart (made rows p) (map (made rows) ps) f) (All-tail FitBodies (made rows p) (map (made rows) ps) b)
  fine_pieces (p ∷ ps) (q ∷ qs) a (inr k) f b =
      All-cons (IsFine vs width dim rows) q qs
      (fine_piece p q (All-head (IsLaidPart vs SmallMap (IsWord width) dim) p ps a) k.0 (All-head FitsPart (made rows p) (map (made rows) ps) f) (All-head FitBodies (made rows p) (map (made rows) ps) b))
      (fine_pieces ps qs (All-tail (IsLaidPart vs SmallMap (IsWord width) dim) p ps a) k.1
      (All-tail FitsPart (made rows p) (map (made rows) ps) f) (All-tail FitBodies (made rows p) (map (made rows) ps) b))

module _ (s : FlatSystem) (v : Variable) (g : IsWellFormedVariable s v) (maps : All SmallMap (composed_maps [] (right_side v))) where
  -- any point of as many entries as there are indices
  abbrev corner : Point
  corner = replicate v.domain.dim (pos 0)

  corner_size : length corner ≡ v.domain.dim
  corner_size = length-replicate v.domain.dim (pos 0)

  own_parts : EachPart (Own SmallMap (IsWord v.width)) (right_side v)
  own_parts = (
    tt,
    each_branch (Own SmallMap (IsWord v.width)) v.pieces
        (All-weaker (IsWellFormedPiece (signatures s) v) (λ p. Own SmallMap (IsWord v.width) (restricted p) × EachPart (Own SmallMap (IsWord v.width)) p.tree)
        (λ p k. (tt, each_both HasSmallRows (HasWords v.width) (Own SmallMap (IsWord v.width)) (own_of (signatures s) v.width) p.tree k.tree.rows k.tree.words)) v.pieces g.pieces),
  )

  pub laid_all : All (IsLaidPart (signatures s) SmallMap (IsWord v.width) v.domain.dim) (parts (signatures s) [] (right_side v))
  laid_all =
      let P : ℕ → Type 0 = λ n. All (IsLaidPart (signatures s) SmallMap (IsWord v.width) n) (parts (signatures s) [] (right_side v)) in
      let Q : ℕ → Type 0 = λ n. Fits (signatures s) n (right_side v) in
      subst P corner_size (laid_parts (signatures s) SmallMap (IsWord v.width) [] (right_side v) corner (let few = g.indices in let e = corner_size in omega (arith, few, e))
      (subst Q (sym corner_size) (right_fits s v g)) (right_in_place s v g) (right_no_pick s v g) (λ k. absurd (omega (arith, k))) own_parts maps)

module _ (s : FlatSystem) (v : Variable) (g : IsWellFormedVariable s v) (fits : AllFit (signatures s) v) where
  pub fine_variable : (w : Variable) → IsNormalVariable (signatures s) v w → All (IsFine (signatures s) v.width v.domain.dim v.domain.rows) w.pieces
  fine_variable w n =
      fine_pieces (signatures s) v.width v.domain.dim v.domain.rows (parts (signatures s) [] (right_side v)) w.pieces (laid_all s v g fits.maps) (keep_is v.domain.dim n.pieces) fits.pieces fits.bodies

-- ---- what is asked of pieces

module _ (vs : List Signature) (v : Variable) where
  pub fine_well_formed : (q : Piece) → IsFine vs v.width v.domain.dim v.domain.rows q → IsWellFormedPiece vs v q
  fine_well_formed q f =
      let d = q.domain.dim in
      let rows = q.domain.rows in
      record {
        dimension = f.dimension;
        rows = f.small;
        tree = record {
          fits = (let P : ℕ → Type 0 = λ n. Fits vs n q.tree in subst P f.dimension (laid_fits vs SmallMap (IsWord v.width) SmallSet d rows q.tree f.laid));
          rows = laid_small vs v.width d rows q.tree f.laid;
          words = laid_words vs v.width d rows q.tree f.laid;
          reductions = laid_in_place vs SmallMap (IsWord v.width) SmallSet d rows q.tree f.laid;
          no_pick = laid_no_pick vs SmallMap (IsWord v.width) SmallSet d rows q.tree f.laid;
        };
      }

  pub fine_kept : (q : Piece) → IsFine vs v.width v.domain.dim v.domain.rows q → IsKeptPiece vs v q
  fine_kept q f =
      let d = q.domain.dim in
      let rows = q.domain.rows in
      record {
        plain = laid_plain vs SmallMap (IsWord v.width) SmallSet d rows q.tree f.laid;
        within = f.within;
        point = f.point;
        has_point = f.has_point;
        reads = laid_reads vs SmallMap (IsWord v.width) SmallSet q.domain q.tree f.laid;
        few = f.few;
        few_inside = laid_few vs v.width d rows q.tree f.laid;
        over = f.over;
      }
