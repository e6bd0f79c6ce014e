-- A kept piece has the words of the part that it stands for: filled and normalised sets have the same points over a point of the piece.
use Rattle.std.proofs.Common.{◌≡◌, ◌↔◌, ℕ, ◌≤◌, Bool, true, false, ◌&&◌, IsTrue, if◌then◌else◌, ℤ, List, [], ◌++◌, length, refl, sym, ap, ◌∙◌, arith, All}
use Rattle.std.specs.List.{list_all}
use Rattle.std.proofs.lemmas.List.Folds.{list_all-append}
use Rattle.std.proofs.lemmas.List.Elements.{All-head, All-tail}
use Rattle.av_affine.specs.declared.form.Form.{Form}
use Rattle.av_affine.specs.declared.map.Map.{Map}
use Rattle.av_poly.specs.Points.{Set}
use Rattle.av_poly.specs.Preimages.{rows_before}
use Rattle.av_poly.proofs.Normalising.{normal_set}
use Rattle.av_tree.specs.Points.{Point}
use Rattle.av_tree.specs.Folds.{folded}
use Rattle.av_tree.proofs.SameParts.{combined_same, chosen_same, folded_same}
use Rattle.av_flat.specs.Trees.{Tree, reference, constant, binary, choice, reduction}
use Rattle.av_flat.specs.Points.{has, holds, point_over}
use Rattle.av_flat.specs.Signatures.{Signature}
use Rattle.av_flat.specs.Counts.{count, count_inside}
use Rattle.av_flat.specs.Values.{Scene, HasValue}
use Rattle.av_flat.specs.WellFormed.{IsProjection}
use Rattle.av_flat.specs.Quantities.{body_sets}
use Rattle.av_flat.specs.Pieces.{filled}
use Rattle.av_flat.proofs.Sets.{has_is}
use Rattle.av_flat.proofs.Parts.{fitting, rows_reach}
use Rattle.av_normal.specs.NormalForm.{IsNormalised, HasNormalSets}
use Rattle.av_normal.proofs.Projecting.{image_over}
use Rattle.av_normal.proofs.Laid.{Hold, both_of, hold_both, IsReduced, IsLaid, Anything, looser, count_one}
use Rattle.av_flat.proofs.PieceValues.{over_length}
use Rattle.av_base.proofs.Lists.{all_parts}

-- ---- points of normalised sets

pub same_tests : (s t : Bool) → (IsTrue s → IsTrue t) → (IsTrue t → IsTrue s) → s ≡ t
same_tests true t h k = sym (h refl)
same_tests false true h k = k refl
same_tests false false h k = refl

pub has_normal : (set inner : Set) (z : Point) → IsNormalised set inner → has inner z ≡ has set z
has_normal set inner z n =
    let same = normal_set inner set z n.dim n.rows in
    same_tests (has inner z) (has set z) (λ h. (has_is set z).1 (same.0 ((has_is inner z).0 h))) (λ h. (has_is inner z).1 (same.1 ((has_is set z).0 h)))

pub hold_normal : (set inner : Set) (z : Point) → IsNormalised set inner → length z ≡ set.dim → list_all (holds z) inner.rows ≡ list_all (holds z) set.rows
hold_normal set inner z n e =
    sym (fitting (length z) inner.dim (list_all (holds z) inner.rows) (e ∙ sym n.dim)) ∙ has_normal set inner z n ∙ fitting (length z) set.dim (list_all (holds z) set.rows) e

-- the rows of a holder hold at the points over its point
pub hold_over : (m : Map) (rows : List Form) (z : Point) (k : ℤ) → IsProjection m → length m.rows ≡ length z → m.from ≤ 4 → Hold rows z → Hold (rows_before m rows) (point_over m z k)
hold_over m rows z k is e few h =
    let size = over_length m z k in
    rows_reach m [] rows (point_over m z k) (sym size) (omega (arith, size, few)) ∙ ap (λ y. list_all (holds y) rows) (image_over m z k is e) ∙ h

-- ---- words of parts of trees

pub cond_same : (a b : Bool) (m n : ℕ) → a ≡ b → (IsTrue a → m ≡ n) → (if a then m else 0) ≡ (if b then n else 0)
cond_same true true m n e f = f refl
cond_same true false m n e f = absurd cc
cond_same false true m n e f = absurd cc
cond_same false false m n e f = refl

pub cond_true : (b : Bool) (n : ℕ) → (if b then n else 0) ≡ 1 → IsTrue b
cond_true true n e = refl
cond_true false n e = absurd cc

pub true_first : (a b : Bool) → IsTrue a → (a && b) ≡ b
true_first true b h = refl
true_first false b h = absurd cc

-- ---- from parts to pieces

module _ (vs : List Signature) (M : Map → Type 0) (W : ℕ → Type 0) where
  -- the set of a reduction with its holder's rows
  abbrev pub wider : Map → List Form → Set → Set
  wider m rows set = record { dim = set.dim; rows = rows_before m rows ++ set.rows }

  pub laid_normal : (S : Set → Type 0) (n : ℕ) (rows : List Form) (t u : Tree) → IsLaid vs M W Anything n rows t → HasNormalSets (filled rows t) u
      → All (λ set. (inner : Set) → IsNormalised set inner → S inner) (body_sets (filled rows t)) → IsLaid vs M W S n rows u
  laid_normal S n rows (reference place m) (reference q k) a h b = rw (h.0, h.1) a
  laid_normal S n rows (constant k) (constant j) a h b = rw h a
  laid_normal S n rows (binary s l r) (binary t x y) a h b =
      let P : Set → Type 0 = λ set. (inner : Set) → IsNormalised set inner → S inner in
      let c = all_parts P (body_sets (filled rows l)) (body_sets (filled rows r)) b in
      (laid_normal S n rows l x a.0 h.1 c.0, laid_normal S n rows r y a.1 h.2 c.1)
  laid_normal S n rows (choice l c r x y) (choice d e f v w) a h b =
      let P : Set → Type 0 = λ set. (inner : Set) → IsNormalised set inner → S inner in
      let last = all_parts P (body_sets (filled rows l) ++ body_sets (filled rows r) ++ body_sets (filled rows x)) (body_sets (filled rows y)) b in
      let third = all_parts P (body_sets (filled rows l) ++ body_sets (filled rows r)) (body_sets (filled rows x)) last.0 in
      let sides = all_parts P (body_sets (filled rows l)) (body_sets (filled rows r)) third.0 in
      (laid_normal S n rows l d a.0 h.1 sides.0, laid_normal S n rows r f a.1 h.2 sides.1, laid_normal S n rows x v a.2 h.3 third.1, laid_normal S n rows y w a.3 h.4 last.1)
  laid_normal S n rows (reduction o m t set) (reduction p k u inner) a h b =
      let P : Set → Type 0 = λ other. (new : Set) → IsNormalised other new → S new in
      let wide = wider m rows set in
      let body = laid_normal S m.from wide.rows t u (looser vs M W Anything m.from set.rows wide.rows t (λ z e q. (both_of (rows_before m rows) set.rows z q).1) a.1) h.2 (All-tail P wide (body_sets (filled wide.rows t)) b) in
      rw h.1 (
        record { projection = a.0.projection; results = a.0.results; few = a.0.few; dimension = h.3.dim ∙ a.0.dimension; map_is = a.0.map_is; set_is = All-head P wide (body_sets (filled wide.rows t)) b inner h.3 },
        looser vs M W S m.from wide.rows inner.rows u (λ z e q. sym (hold_normal wide inner z h.3 (e ∙ sym a.0.dimension)) ∙ q) body,
      )
  laid_normal S n rows t u a h b = absurd h

  pub laid_any : (n : ℕ) (rows : List Form) (t u : Tree) → IsLaid vs M W Anything n rows t → HasNormalSets (filled rows t) u → IsLaid vs M W Anything n rows u
  laid_any n rows t u a h = laid_normal Anything n rows t u a h (λ k d l inner e. tt)

  -- over a point of the holder, the body has as many words as before, and the same
  module _ (rows : List Form) (m : Map) (t u : Tree) (set inner : Set) (n : ℕ) (z : Point) (a : IsReduced M Anything n m set) (laid : IsLaid vs M W Anything m.from set.rows t)
      (same : HasNormalSets (filled (rows_before m rows ++ set.rows) t) u) (normal : IsNormalised (record { dim = set.dim; rows = rows_before m rows ++ set.rows }) inner) (size : length z ≡ n) (here : Hold rows z) where
    over_size : (k : ℤ) → length (point_over m z k) ≡ set.dim
    over_size k = over_length m z k ∙ sym a.dimension

    over_holds : (k : ℤ) → Hold (rows_before m rows) (point_over m z k)
    over_holds k = hold_over m rows z k a.projection (a.results ∙ sym size) a.few here

    over_has : (k : ℤ) → has set (point_over m z k) ≡ has inner (point_over m z k)
    over_has k =
        let y = point_over m z k in
        fitting (length y) set.dim (list_all (holds y) set.rows) (over_size k)
        ∙ sym (true_first (list_all (holds y) (rows_before m rows)) (list_all (holds y) set.rows) (over_holds k))
        ∙ sym (list_all-append (holds y) (rows_before m rows) set.rows)
        ∙ sym (fitting (length y) set.dim (list_all (holds y) (rows_before m rows ++ set.rows)) (over_size k))
        ∙ sym (has_normal (wider m rows set) inner y normal)

    over_set : (k : ℤ) → IsTrue (has set (point_over m z k)) → Hold (rows_before m rows ++ set.rows) (point_over m z k)
    over_set k h = hold_both (rows_before m rows) set.rows (point_over m z k) (over_holds k) (sym (fitting (length (point_over m z k)) set.dim (list_all (holds (point_over m z k)) set.rows) (over_size k)) ∙ h)

    over_laid : IsLaid vs M W Anything m.from (rows_before m rows ++ set.rows) t
    over_laid = looser vs M W Anything m.from set.rows (rows_before m rows ++ set.rows) t (λ y e q. (both_of (rows_before m rows) set.rows y q).1) laid

    over_count : (k : ℤ) → count_inside vs set t (point_over m z k) ≡ count_inside vs inner u (point_over m z k)
    over_count k =
        let y = point_over m z k in
        cond_same (has set y) (has inner y) (count vs t y) (count vs u y) (over_has k)
        (λ h. count_one vs M W Anything m.from (rows_before m rows ++ set.rows) t y over_laid (over_length m z k) (over_set k h)
        ∙ sym (count_one vs M W Anything m.from (rows_before m rows ++ set.rows) u y (laid_any m.from (rows_before m rows ++ set.rows) t u over_laid same) (over_length m z k) (over_set k h)))

module _ (s : Scene) (M : Map → Type 0) (W : ℕ → Type 0) where
  pub value_same : (n : ℕ) (rows : List Form) (t u : Tree) (z : Point) (w : ℕ) → IsLaid s.variables M W Anything n rows t → HasNormalSets (filled rows t) u → length z ≡ n → Hold rows z
      → HasValue s t z w ↔ HasValue s u z w
  value_same n rows (reference place m) (reference q k) z w a h e here = rw (h.0, h.1) ((λ v. v), (λ v. v))
  value_same n rows (constant k) (constant j) z w a h e here = rw h ((λ v. v), (λ v. v))
  value_same n rows (binary g l r) (binary f x y) z w a h e here =
      rw h.0 (combined_same _ _ _ _ _ w (λ v. value_same n rows l x z v a.0 h.1 e here) (λ v. value_same n rows r y z v a.1 h.2 e here))
  value_same n rows (choice l c r x y) (choice j d k p q) z w a h e here =
      rw h.0 (chosen_same _ _ _ _ _ _ _ _ _ w (λ v. value_same n rows l j z v a.0 h.1 e here) (λ v. value_same n rows r k z v a.1 h.2 e here) (λ v. value_same n rows x p z v a.2 h.3 e here) (λ v. value_same n rows y q z v a.3 h.4 e here))
  value_same n rows (reduction o m t set) (reduction p k u inner) z w a h e here =
      rw (h.0, h.1) (folded_same (λ j. count_inside s.variables set t (point_over m z j)) (λ j. count_inside s.variables inner u (point_over m z j))
      (λ j. HasValue s t (point_over m z j)) (λ j. HasValue s u (point_over m z j)) (folded s.width o) w
      (over_count s.variables M W rows m t u set inner n z a.0 a.1 h.2 h.3 e here)
      (λ j v once. value_same m.from (rows_before m rows ++ set.rows) t u (point_over m z j) v (over_laid s.variables M W rows m t u set inner n z a.0 a.1 h.2 h.3 e here) h.2 (over_length m z j)
      (over_set s.variables M W rows m t u set inner n z a.0 a.1 h.2 h.3 e here j (cond_true (has set (point_over m z j)) _ once))))
  value_same n rows t u z w a h e here = absurd h
