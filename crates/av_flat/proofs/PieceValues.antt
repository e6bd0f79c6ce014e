-- Where a tree has one word at a point, it is that of the piece that holds there.
use Rattle.std.proofs.Common.{◌≡◌, ◌↔◌, ℕ, zero, suc, ◌+◌, ◌*◌, ◌≤◌, ℤ, Bool, true, false, IsTrue, if◌then◌else◌, List, [], ◌∷◌, ◌++◌, ◌⊎◌, inl, inr, length, map, refl, sym, ap, subst, arith, ◌∙◌, add-zero, zero-mul, mul-zero, one-mul, suc-mul}
use Rattle.std.specs.Prelude.{nat_eq, ◌&&◌}
use Rattle.std.specs.List.{AllByRecursion, flat_map, list_all}
use Rattle.std.proofs.lemmas.List.{length-map}
use Rattle.std.proofs.lemmas.List.FromFn.{length-map-range_with_len}
use Rattle.std.proofs.lemmas.List.Folds.{list_all-append}
use Rattle.av_affine.specs.declared.form.Form.{Form}
use Rattle.av_affine.specs.declared.map.Map.{Map}
use Rattle.av_affine.specs.Forms.{value_at}
use Rattle.av_poly.specs.Points.{Set}
use Rattle.av_base.specs.declared.word.Op.TheVariants as op
use Rattle.av_tree.specs.declared.relation.Relation.{Relation}
use Rattle.av_tree.specs.declared.sign.Sign.{Sign}
use Rattle.av_tree.specs.Points.{Point}
use Rattle.av_tree.specs.Folds.{IsFolded, folded}
use Rattle.av_tree.specs.Values.{combined, words_compare, IsCombined, IsChosen}
use Rattle.av_tree.proofs.SameParts.{folded_too}
use Rattle.av_flat.specs.Trees.{Tree, Trees, reference, constant, binary, choice, restriction, cases, dependence, reduction, pick, none, more}
use Rattle.av_flat.specs.Points.{has, holds, entry_over, point_over}
use Rattle.av_flat.specs.Signatures.{Signature, is_declared_at}
use Rattle.av_flat.specs.Counts.{count, count_all, count_inside}
use Rattle.av_flat.specs.Values.{Scene, HasValue, IsOfBranch, IsWordAt}
use Rattle.av_flat.specs.WellFormed.{Fits, FitAll, EachPart, EachPartOfAll, IsInPlace, is_case, is_reduction, is_pick}
use Rattle.av_flat.specs.Quantities.{piece_count}
use Rattle.av_flat.specs.Pieces.{Part, part, rows_under, in_pairs, in_fours, first_part, parts, parts_of_all, one_where, holding, IsOfPart}
use Rattle.av_flat.proofs.Sets.{both_true, both_hold}
use Rattle.av_flat.proofs.Words.{value_counted}
use Rattle.av_flat.proofs.Parts.{reach, Chain, length_parts, pieces_at, composed_image, pieces_at_all, declared_where, under_at, fitting}
use Rattle.av_flat.proofs.Examples.{both_are}
use Rattle.av_tree.proofs.Words.{product_one}

-- ---- parts that hold

abbrev Holding : Point → Part → Type 0
Holding z p = IsTrue (list_all (holds z) p.rows)

holding_both : (z : Point) (a b : List Form) → IsTrue (list_all (holds z) a) → IsTrue (list_all (holds z) b) → IsTrue (list_all (holds z) (a ++ b))
holding_both z a b p q = list_all-append (holds z) a b ∙ both_hold (list_all (holds z) a) (list_all (holds z) b) p q

both_holding : (z : Point) (a b : List Form) → IsTrue (list_all (holds z) (a ++ b)) → IsTrue (list_all (holds z) a) × IsTrue (list_all (holds z) b)
both_holding z a b h = both_true (list_all (holds z) a) (list_all (holds z) b) (sym (list_all-append (holds z) a b) ∙ h)

in_first : (s : Scene) (z : Point) (ps qs : List Part) (w : ℕ) → IsOfPart s z ps w → IsOfPart s z (ps ++ qs) w
in_first s z [] qs w h = absurd h
in_first s z (p ∷ ps) qs w (inl h) = inl h
in_first s z (p ∷ ps) qs w (inr h) = inr (in_first s z ps qs w h)

in_last : (s : Scene) (z : Point) (ps qs : List Part) (w : ℕ) → IsOfPart s z qs w → IsOfPart s z (ps ++ qs) w
in_last s z [] qs w h = h
in_last s z (p ∷ ps) qs w h = inr (in_last s z ps qs w h)

in_either : (s : Scene) (z : Point) (ps qs : List Part) (w : ℕ) → IsOfPart s z (ps ++ qs) w → IsOfPart s z ps w ⊎ IsOfPart s z qs w
in_either s z [] qs w h = inr h
in_either s z (p ∷ ps) qs w (inl h) = inl (inl h)
in_either s z (p ∷ ps) qs w (inr h) = elim (in_either s z ps qs w h) [ inl k ↦ inl (inr k) | inr k ↦ inr k ]

if_one : (b : Bool) → IsTrue b → 1 ≤ (if b then 1 else 0)
if_one b h = rw h (omega arith)

some_holds : (s : Scene) (z : Point) (ps : List Part) (w : ℕ) → IsOfPart s z ps w → 1 ≤ holding z ps
some_holds s z [] w h = absurd h
some_holds s z (p ∷ ps) w (inl h) = let k = if_one (list_all (holds z) p.rows) h.0 in omega (arith, k)
some_holds s z (p ∷ ps) w (inr h) = let k = some_holds s z ps w h in omega (arith, k)

-- ---- a part that holds has one word

abbrev IsSingle : List Signature → Point → Part → Type 0
IsSingle vs z p = Holding z p → count vs p.tree z ≡ 1

all_append : (P : Part → Type 0) (ps qs : List Part) → AllByRecursion P ps → AllByRecursion P qs → AllByRecursion P (ps ++ qs)
all_append P [] qs h k = k
all_append P (p ∷ ps) qs h k = (h.0, all_append P ps qs h.1 k)

all_map : (P Q : Part → Type 0) (g : Part → Part) → ((p : Part) → P p → Q (g p)) → (ps : List Part) → AllByRecursion P ps → AllByRecursion Q (map g ps)
all_map P Q g f [] h = tt
all_map P Q g f (p ∷ ps) h = (f p h.0, all_map P Q g f ps h.1)

all_spread : (P Q : Part → Type 0) (g : Part → List Part) → ((p : Part) → P p → AllByRecursion Q (g p)) → (ps : List Part) → AllByRecursion P ps → AllByRecursion Q (flat_map g ps)
all_spread P Q g f [] h = tt
all_spread P Q g f (p ∷ ps) h = all_append Q (g p) (flat_map g ps) (f p h.0) (all_spread P Q g f ps h.1)

pub if_here : (b : Bool) → IsTrue b → ◌≡◌ {A = ℕ} (if b then 1 else 0) 1
if_here b h = rw h refl

mutual
  single_at : (vs : List Signature) (ds : List Map) (t : Tree) (z : Point) → Chain ds z → Fits vs (length (reach ds z)) t → AllByRecursion (IsSingle vs z) (parts vs ds t)
  single_at vs ds (reference place m) z h f =
      ((λ k. if_here _ (ap (λ y. is_declared_at vs place y) (composed_image m ds z h) ∙ declared_where vs ds place m z h f ∙ k)), tt)
  single_at vs ds (constant n) z h f = ((λ k. refl), tt)
  single_at vs ds (binary g l r) z h f =
      all_spread (IsSingle vs z) (IsSingle vs z) (λ p. map (λ q. part (p.rows ++ q.rows) (binary g p.tree q.tree)) (parts vs ds r))
      (λ p single. all_map (IsSingle vs z) (IsSingle vs z) (λ q. part (p.rows ++ q.rows) (binary g p.tree q.tree))
      (λ q other k. let both = both_holding z p.rows q.rows k in product_one _ _ (single both.0) (other both.1))
      (parts vs ds r) (single_at vs ds r z h f.1))
      (parts vs ds l) (single_at vs ds l z h f.0)
  single_at vs ds (choice l c r x y) z h f =
      all_spread (IsSingle vs z) (IsSingle vs z) (λ p. flat_map (λ q. flat_map (λ a. map (λ b. part (p.rows ++ q.rows ++ a.rows ++ b.rows) (choice p.tree c q.tree a.tree b.tree)) (parts vs ds y)) (parts vs ds x)) (parts vs ds r))
      (λ p at_p. all_spread (IsSingle vs z) (IsSingle vs z) (λ q. flat_map (λ a. map (λ b. part (p.rows ++ q.rows ++ a.rows ++ b.rows) (choice p.tree c q.tree a.tree b.tree)) (parts vs ds y)) (parts vs ds x))
      (λ q at_q. all_spread (IsSingle vs z) (IsSingle vs z) (λ a. map (λ b. part (p.rows ++ q.rows ++ a.rows ++ b.rows) (choice p.tree c q.tree a.tree b.tree)) (parts vs ds y))
      (λ a at_a. all_map (IsSingle vs z) (IsSingle vs z) (λ b. part (p.rows ++ q.rows ++ a.rows ++ b.rows) (choice p.tree c q.tree a.tree b.tree))
      (λ b at_b k.
      let last = both_holding z (p.rows ++ q.rows ++ a.rows) b.rows k in
      let third = both_holding z (p.rows ++ q.rows) a.rows last.0 in
      let second = both_holding z p.rows q.rows third.0 in
      product_one _ _ (product_one _ _ (product_one _ _ (at_p second.0) (at_q second.1)) (at_a third.1)) (at_b last.1))
      (parts vs ds y) (single_at vs ds y z h f.3))
      (parts vs ds x) (single_at vs ds x z h f.2))
      (parts vs ds r) (single_at vs ds r z h f.1))
      (parts vs ds l) (single_at vs ds l z h f.0)
  single_at vs ds (restriction d t) z h f =
      all_map (IsSingle vs z) (IsSingle vs z) (λ p. part (rows_under ds d.rows ++ p.rows) p.tree) (λ p single k. single (both_holding z (rows_under ds d.rows) p.rows k).1)
      (parts vs ds t) (single_at vs ds t z h f.1)
  single_at vs ds (cases ts) z h f = single_at_all vs ds ts z h f
  single_at vs ds (dependence m t) z h f =
      single_at vs (m ∷ ds) t z (f.0, f.1, h) (let P : ℕ → Type 0 = λ n. Fits vs n t in subst P (sym (length-map m.rows (λ g. value_at g (reach ds z)))) f.2)
  single_at vs ds (reduction o m t set) z h f = ((λ k. refl), tt)
  single_at vs ds (pick place choices n) z h f = ((λ k. refl), tt)

  single_at_all : (vs : List Signature) (ds : List Map) (ts : Trees) (z : Point) → Chain ds z → FitAll vs (length (reach ds z)) ts → AllByRecursion (IsSingle vs z) (parts_of_all vs ds ts)
  single_at_all vs ds none z h f = tt
  single_at_all vs ds (more t ts) z h f = all_append (IsSingle vs z) (parts vs ds t) (parts_of_all vs ds ts) (single_at vs ds t z h f.0) (single_at_all vs ds ts z h f.1)

-- ---- bodies of reductions

-- without a case there is one piece
pub caseless : (t : Tree) → EachPart (λ u. is_case u ≡ false) t → piece_count t ≡ 1
caseless (reference place m) h = refl
caseless (constant n) h = refl
caseless (binary g l r) h = product_one _ _ (caseless l h.1) (caseless r h.2)
caseless (choice l c r x y) h = product_one _ _ (product_one _ _ (product_one _ _ (caseless l h.1) (caseless r h.2)) (caseless x h.3)) (caseless y h.4)
caseless (restriction d t) h = caseless t h.1
caseless (cases ts) h = absurd (let e = h.0 in cc)
caseless (dependence m t) h = caseless t h.1
caseless (reduction o m t set) h = refl
caseless (pick place choices n) h = refl

only_part : (ps : List Part) → length ps ≡ 1 → ps ≡ first_part ps ∷ []
only_part [] e = absurd cc
only_part (p ∷ []) e = refl
only_part (p ∷ q ∷ ps) e = absurd (omega (arith, e))

chosen : (a b : Bool) (m n : ℕ) → m ≡ (if b then 1 else 0) → (IsTrue b → n ≡ 1) → (if a then m else 0) ≡ (if a && b then n else 0)
chosen true true m n e f = e ∙ sym (f refl)
chosen true false m n e f = e
chosen false b m n e f = refl

module _ (vs : List Signature) (t : Tree) (u : Point) (few : length u ≤ 4) (fits : Fits vs (length u) t) (one : piece_count t ≡ 1) where
  is_body : parts vs [] t ≡ first_part (parts vs [] t) ∷ []
  is_body = only_part (parts vs [] t) (length_parts vs [] t ∙ one)

  body_counted : count vs t u ≡ one_where u (first_part (parts vs [] t)).rows
  body_counted = pieces_at vs [] t u few fits ∙ ap (λ ps. holding u ps) is_body ∙ add-zero _

  body_single : IsSingle vs u (first_part (parts vs [] t))
  body_single = (let P : List Part → Type 0 = λ ps. AllByRecursion (IsSingle vs u) ps in subst P is_body (single_at vs [] t u few fits)).0

  counts_same : (set : Set) (n : ℕ) → length u ≡ n → set.dim ≡ n
      → count_inside vs set t u ≡ count_inside vs (record { dim = n; rows = set.rows ++ (first_part (parts vs [] t)).rows }) (first_part (parts vs [] t)).tree u
  counts_same set n e d =
      let b = first_part (parts vs [] t) in
      ap (λ x. if x then count vs t u else 0) (fitting (length u) set.dim (list_all (holds u) set.rows) (e ∙ sym d))
      ∙ chosen (list_all (holds u) set.rows) (list_all (holds u) b.rows) (count vs t u) (count vs b.tree u) body_counted body_single
      ∙ ap (λ x. if x then count vs b.tree u else 0)
      (sym (fitting (length u) n (list_all (holds u) (set.rows ++ b.rows)) e ∙ list_all-append (holds u) set.rows b.rows))

-- ---- folds

-- ---- from a tree to its parts

map_has : (s : Scene) (z : Point) (g : Part → Part) (a w : ℕ) → ((p : Part) → Holding z p → HasValue s p.tree z a → Holding z (g p) × HasValue s (g p).tree z w)
    → (ps : List Part) → IsOfPart s z ps a → IsOfPart s z (map g ps) w
map_has s z g a w f [] h = absurd h
map_has s z g a w f (p ∷ ps) (inl h) = inl (f p h.0 h.1)
map_has s z g a w f (p ∷ ps) (inr h) = inr (map_has s z g a w f ps h)

spread_has : (s : Scene) (z : Point) (g : Part → List Part) (a w : ℕ) → ((p : Part) → Holding z p → HasValue s p.tree z a → IsOfPart s z (g p) w)
    → (ps : List Part) → IsOfPart s z ps a → IsOfPart s z (flat_map g ps) w
spread_has s z g a w f [] h = absurd h
spread_has s z g a w f (p ∷ ps) (inl h) = in_first s z (g p) (flat_map g ps) w (f p h.0 h.1)
spread_has s z g a w f (p ∷ ps) (inr h) = in_last s z (g p) (flat_map g ps) w (spread_has s z g a w f ps h)

pairs_have : (s : Scene) (z : Point) (g : Sign) (ps qs : List Part) (w : ℕ)
    → IsCombined (IsOfPart s z ps) (IsOfPart s z qs) (combined s.width g) w → IsOfPart s z (in_pairs (binary g) ps qs) w
pairs_have s z g ps qs w h =
    spread_has s z (λ p. map (λ q. part (p.rows ++ q.rows) (binary g p.tree q.tree)) qs) h.left w
    (λ p at_p has_p. map_has s z (λ q. part (p.rows ++ q.rows) (binary g p.tree q.tree)) h.right w
    (λ q at_q has_q. (holding_both z p.rows q.rows at_p at_q, record { left = h.left; right = h.right; left_has = has_p; right_has = has_q; is = h.is })) qs h.right_has)
    ps h.left_has

fours_have : (s : Scene) (z : Point) (c : Relation) (ps qs rs ss : List Part) (w : ℕ)
    → IsChosen (IsOfPart s z ps) (IsOfPart s z qs) (IsOfPart s z rs) (IsOfPart s z ss) (words_compare s.width c) w → IsOfPart s z (in_fours (λ p q. choice p c q) ps qs rs ss) w
fours_have s z c ps qs rs ss w h =
    spread_has s z (λ p. flat_map (λ q. flat_map (λ a. map (λ b. part (p.rows ++ q.rows ++ a.rows ++ b.rows) (choice p.tree c q.tree a.tree b.tree)) ss) rs) qs) h.left w
    (λ p at_p has_p. spread_has s z (λ q. flat_map (λ a. map (λ b. part (p.rows ++ q.rows ++ a.rows ++ b.rows) (choice p.tree c q.tree a.tree b.tree)) ss) rs) h.right w
    (λ q at_q has_q. spread_has s z (λ a. map (λ b. part (p.rows ++ q.rows ++ a.rows ++ b.rows) (choice p.tree c q.tree a.tree b.tree)) ss) h.first w
    (λ a at_a has_a. map_has s z (λ b. part (p.rows ++ q.rows ++ a.rows ++ b.rows) (choice p.tree c q.tree a.tree b.tree)) h.second w
    (λ b at_b has_b. (
      holding_both z (p.rows ++ q.rows ++ a.rows) b.rows (holding_both z (p.rows ++ q.rows) a.rows (holding_both z p.rows q.rows at_p at_q) at_a) at_b,
      record { left = h.left; right = h.right; first = h.first; second = h.second; left_has = has_p; right_has = has_q; first_has = has_a; second_has = has_b; is = h.is },
    )) ss h.second_has)
    rs h.first_has)
    qs h.right_has)
    ps h.left_has

-- no reduction stands under dependences
abbrev Clear : List Map → Type 0 → Type 0
Clear [] T = Unit {0}
Clear (d ∷ ds) T = T

clear_part : (ds : List Map) (T U : Type 0) → (T → U) → Clear ds T → Clear ds U
clear_part [] T U f c = tt
clear_part (d ∷ ds) T U f c = f c

abbrev NoReduction : Tree → Type 0
NoReduction t = EachPart (λ u. is_reduction u ≡ false) t

abbrev NoReductionIn : Trees → Type 0
NoReductionIn ts = EachPartOfAll (λ u. is_reduction u ≡ false) ts

pub over_length : (m : Map) (z : Point) (k : ℤ) → length (point_over m z k) ≡ m.from
over_length m z k = length-map-range_with_len (entry_over m.rows z k) 0 m.from

abbrev NoPick : Tree → Type 0
NoPick t = EachPart (λ u. is_pick u ≡ false) t

module _ (s : Scene) (m : Map) (t : Tree) (set : Set) (z : Point) (f : Fits s.variables (length z) (reduction op.Add m t set)) (one : piece_count t ≡ 1) where
  abbrev part_of_body : Part
  part_of_body = first_part (parts s.variables [] t)

  abbrev set_of_body : Set
  set_of_body = record { dim = m.from; rows = set.rows ++ (first_part (parts s.variables [] t)).rows }

  over_few : (k : ℤ) → length (point_over m z k) ≤ 4
  over_few k = let e = over_length m z k in let few = f.1 in omega (arith, e, few)

  over_fits : (k : ℤ) → Fits s.variables (length (point_over m z k)) t
  over_fits k = let P : ℕ → Type 0 = λ n. Fits s.variables n t in subst P (sym (over_length m z k)) f.3

  same_counts : (k : ℤ) → count_inside s.variables set t (point_over m z k) ≡ count_inside s.variables set_of_body part_of_body.tree (point_over m z k)
  same_counts k = counts_same s.variables t (point_over m z k) (over_few k) (over_fits k) one set m.from (over_length m z k) f.2

  of_body : (u : Point) (w : ℕ) → length u ≤ 4 → Fits s.variables (length u) t → IsOfPart s u (parts s.variables [] t) w → HasValue s part_of_body.tree u w
  of_body u w few fits h =
      let P : List Part → Type 0 = λ ps. IsOfPart s u ps w in
      elim (subst P (is_body s.variables t u few fits one) h) [ inl k ↦ k.1 | inr k ↦ absurd k ]

  in_body : (u : Point) (w : ℕ) → length u ≤ 4 → Fits s.variables (length u) t → count s.variables t u ≡ 1 → HasValue s part_of_body.tree u w → IsOfPart s u (parts s.variables [] t) w
  in_body u w few fits e h =
      let P : List Part → Type 0 = λ ps. IsOfPart s u ps w in
      subst P (sym (is_body s.variables t u few fits one)) (inl ((both_are _ 1 (sym (body_counted s.variables t u few fits one) ∙ e)).0, h))

  fold_forth : (F : List ℕ → ℕ) (w : ℕ)
      → ((u : Point) (x : ℕ) → length u ≤ 4 → Fits s.variables (length u) t → HasValue s t u x → IsOfPart s u (parts s.variables [] t) x)
      → IsFolded (λ k. count_inside s.variables set t (point_over m z k)) (λ k. HasValue s t (point_over m z k)) F w
      → IsFolded (λ k. count_inside s.variables set_of_body part_of_body.tree (point_over m z k)) (λ k. HasValue s part_of_body.tree (point_over m z k)) F w
  fold_forth F w rec v =
      folded_too (λ k. count_inside s.variables set t (point_over m z k)) (λ k. count_inside s.variables set_of_body part_of_body.tree (point_over m z k))
      (λ k. HasValue s t (point_over m z k)) (λ k. HasValue s part_of_body.tree (point_over m z k)) F w same_counts
      (λ k x e h. of_body (point_over m z k) x (over_few k) (over_fits k) (rec (point_over m z k) x (over_few k) (over_fits k) h)) v

  fold_back : (F : List ℕ → ℕ) (w : ℕ)
      → ((u : Point) (x : ℕ) → length u ≤ 4 → Fits s.variables (length u) t → count s.variables t u ≡ 1 → IsOfPart s u (parts s.variables [] t) x → HasValue s t u x)
      → IsFolded (λ k. count_inside s.variables set_of_body part_of_body.tree (point_over m z k)) (λ k. HasValue s part_of_body.tree (point_over m z k)) F w
      → IsFolded (λ k. count_inside s.variables set t (point_over m z k)) (λ k. HasValue s t (point_over m z k)) F w
  fold_back F w rec v =
      folded_too (λ k. count_inside s.variables set_of_body part_of_body.tree (point_over m z k)) (λ k. count_inside s.variables set t (point_over m z k))
      (λ k. HasValue s part_of_body.tree (point_over m z k)) (λ k. HasValue s t (point_over m z k)) F w (λ k. sym (same_counts k))
      (λ k x e h.
      let once = (both_are _ _ (same_counts k ∙ e)).1 in
      rec (point_over m z k) x (over_few k) (over_fits k) once (in_body (point_over m z k) x (over_few k) (over_fits k) once h)) v

mutual
  forth : (s : Scene) (ds : List Map) (t : Tree) (z : Point) (w : ℕ) → Chain ds z → Fits s.variables (length (reach ds z)) t → EachPart IsInPlace t → NoPick t → Clear ds (NoReduction t)
      → HasValue s t (reach ds z) w → IsOfPart s z (parts s.variables ds t) w
  forth s ds (reference place m) z w h f g n c v =
      let P : Point → Type 0 = λ y. IsWordAt s place y w in
      inl (sym (declared_where s.variables ds place m z h f) ∙ v.declared, subst P (sym (composed_image m ds z h)) v)
  forth s ds (constant k) z w h f g n c v = inl (refl, v)
  forth s ds (binary b l r) z w h f g n c v =
      pairs_have s z b (parts s.variables ds l) (parts s.variables ds r) w (record {
        left = v.left;
        right = v.right;
        left_has = forth s ds l z v.left h f.0 g.1 n.1 (clear_part ds _ _ (λ k. k.1) c) v.left_has;
        right_has = forth s ds r z v.right h f.1 g.2 n.2 (clear_part ds _ _ (λ k. k.2) c) v.right_has;
        is = v.is;
      })
  forth s ds (choice l b r x y) z w h f g n c v =
      fours_have s z b (parts s.variables ds l) (parts s.variables ds r) (parts s.variables ds x) (parts s.variables ds y) w (record {
        left = v.left;
        right = v.right;
        first = v.first;
        second = v.second;
        left_has = forth s ds l z v.left h f.0 g.1 n.1 (clear_part ds _ _ (λ k. k.1) c) v.left_has;
        right_has = forth s ds r z v.right h f.1 g.2 n.2 (clear_part ds _ _ (λ k. k.2) c) v.right_has;
        first_has = forth s ds x z v.first h f.2 g.3 n.3 (clear_part ds _ _ (λ k. k.3) c) v.first_has;
        second_has = forth s ds y z v.second h f.3 g.4 n.4 (clear_part ds _ _ (λ k. k.4) c) v.second_has;
        is = v.is;
      })
  forth s ds (restriction d t) z w h f g n c v =
      map_has s z (λ p. part (rows_under ds d.rows ++ p.rows) p.tree) w w
      (λ p at_p has_p. (holding_both z (rows_under ds d.rows) p.rows (under_at ds d.rows z h ∙ (both_true (nat_eq (length (reach ds z)) d.dim) (list_all (holds (reach ds z)) d.rows) v.0).1) at_p, has_p))
      (parts s.variables ds t) (forth s ds t z w h f.1 g.1 n.1 (clear_part ds _ _ (λ k. k.1) c) v.1)
  forth s ds (cases ts) z w h f g n c v = forth_all s ds ts z w h f g.1 n.1 (clear_part ds _ _ (λ k. k.1) c) v.1
  forth s ds (dependence m t) z w h f g n c v =
      forth s (m ∷ ds) t z w (f.0, f.1, h) (let P : ℕ → Type 0 = λ n. Fits s.variables n t in subst P (sym (length-map m.rows (λ e. value_at e (reach ds z)))) f.2) g.1 n.1 g.0 v
  forth s [] (reduction o m t set) z w h f g n c v = inl (refl, fold_forth s m t set z f (caseless t g.0.1) (folded s.width o) w (λ u x few fits r. forth s [] t u x few fits g.1 n.1 tt r) v)
  forth s (d ∷ ds) (reduction o m t set) z w h f g n c v = absurd (let e = c.0 in cc)
  forth s ds (pick place choices k) z w h f g n c v = absurd (let e = n in cc)

  forth_all : (s : Scene) (ds : List Map) (ts : Trees) (z : Point) (w : ℕ) → Chain ds z → FitAll s.variables (length (reach ds z)) ts → EachPartOfAll IsInPlace ts → EachPartOfAll (λ u. is_pick u ≡ false) ts → Clear ds (NoReductionIn ts)
      → IsOfBranch s ts (reach ds z) w → IsOfPart s z (parts_of_all s.variables ds ts) w
  forth_all s ds none z w h f g n c v = absurd v
  forth_all s ds (more t ts) z w h f g n c (inl v) =
      in_first s z (parts s.variables ds t) (parts_of_all s.variables ds ts) w (forth s ds t z w h f.0 g.0 n.0 (clear_part ds _ _ (λ k. k.0) c) v)
  forth_all s ds (more t ts) z w h f g n c (inr v) =
      in_last s z (parts s.variables ds t) (parts_of_all s.variables ds ts) w (forth_all s ds ts z w h f.1 g.1 n.1 (clear_part ds _ _ (λ k. k.1) c) v)

-- ---- from the parts of a tree to the tree

one_each : (a b : ℕ) → a * b ≡ 1 → (a ≡ 1) × (b ≡ 1)
one_each zero b e = absurd (let k = zero-mul b in omega (arith, k, e))
one_each (suc zero) b e = (refl, sym (one-mul b) ∙ e)
one_each (suc (suc a)) zero e = absurd (let k = mul-zero (suc (suc a)) in omega (arith, k, e))
one_each (suc (suc a)) (suc b) e = absurd (let k = suc-mul (suc a) (suc b) in let j = suc-mul a (suc b) in omega (arith, k, j, e))

map_had : (s : Scene) (z : Point) (rows : List Form) (ps : List Part) (w : ℕ) → IsOfPart s z (map (λ p. part (rows ++ p.rows) p.tree) ps) w → IsOfPart s z ps w
map_had s z rows [] w h = h
map_had s z rows (p ∷ ps) w (inl h) = inl ((both_holding z rows p.rows h.0).1, h.1)
map_had s z rows (p ∷ ps) w (inr h) = inr (map_had s z rows ps w h)

row_had : (s : Scene) (z : Point) (g : Sign) (p : Part) (qs : List Part) (w : ℕ) → IsOfPart s z (map (λ q. part (p.rows ++ q.rows) (binary g p.tree q.tree)) qs) w
    → Holding z p × IsCombined (HasValue s p.tree z) (IsOfPart s z qs) (combined s.width g) w
row_had s z g p [] w h = absurd h
row_had s z g p (q ∷ qs) w (inl h) =
    let both = both_holding z p.rows q.rows h.0 in
    (both.0, record { left = h.1.left; right = h.1.right; left_has = h.1.left_has; right_has = inl (both.1, h.1.right_has); is = h.1.is })
row_had s z g p (q ∷ qs) w (inr h) =
    let r = row_had s z g p qs w h in (r.0, record { left = r.1.left; right = r.1.right; left_has = r.1.left_has; right_has = inr r.1.right_has; is = r.1.is })

pairs_had : (s : Scene) (z : Point) (g : Sign) (ps qs : List Part) (w : ℕ) → IsOfPart s z (in_pairs (binary g) ps qs) w → IsCombined (IsOfPart s z ps) (IsOfPart s z qs) (combined s.width g) w
pairs_had s z g [] qs w h = absurd h
pairs_had s z g (p ∷ ps) qs w h = elim (in_either s z (map (λ q. part (p.rows ++ q.rows) (binary g p.tree q.tree)) qs) (in_pairs (binary g) ps qs) w h) [
  | inl k ↦ (let r = row_had s z g p qs w k in record { left = r.1.left; right = r.1.right; left_has = inl (r.0, r.1.left_has); right_has = r.1.right_has; is = r.1.is })
  | inr k ↦ (let r = pairs_had s z g ps qs w k in record { left = r.left; right = r.right; left_has = inr r.left_has; right_has = r.right_has; is = r.is })
]

module _ (s : Scene) (z : Point) (c : Relation) where
  abbrev four : Part → Part → Part → Part → Part
  four p q a b = part (p.rows ++ q.rows ++ a.rows ++ b.rows) (choice p.tree c q.tree a.tree b.tree)

  fourth_had : (p q a : Part) (ss : List Part) (w : ℕ) → IsOfPart s z (map (four p q a) ss) w
      → IsTrue (list_all (holds z) (p.rows ++ q.rows ++ a.rows))
      × IsChosen (HasValue s p.tree z) (HasValue s q.tree z) (HasValue s a.tree z) (IsOfPart s z ss) (words_compare s.width c) w
  fourth_had p q a [] w h = absurd h
  fourth_had p q a (b ∷ ss) w (inl h) =
      let both = both_holding z (p.rows ++ q.rows ++ a.rows) b.rows h.0 in
      let v = h.1 in
      (both.0, record { left = v.left; right = v.right; first = v.first; second = v.second; left_has = v.left_has; right_has = v.right_has; first_has = v.first_has; second_has = inl (both.1, v.second_has); is = v.is })
  fourth_had p q a (b ∷ ss) w (inr h) =
      let r = fourth_had p q a ss w h in
      let v = r.1 in
      (r.0, record { left = v.left; right = v.right; first = v.first; second = v.second; left_has = v.left_has; right_has = v.right_has; first_has = v.first_has; second_has = inr v.second_has; is = v.is })

  third_had : (p q : Part) (rs ss : List Part) (w : ℕ) → IsOfPart s z (flat_map (λ a. map (four p q a) ss) rs) w
      → IsTrue (list_all (holds z) (p.rows ++ q.rows))
      × IsChosen (HasValue s p.tree z) (HasValue s q.tree z) (IsOfPart s z rs) (IsOfPart s z ss) (words_compare s.width c) w
  third_had p q [] ss w h = absurd h
  third_had p q (a ∷ rs) ss w h = elim (in_either s z (map (four p q a) ss) (flat_map (λ x. map (four p q x) ss) rs) w h) [
    | inl k ↦
        (let r = fourth_had p q a ss w k in
        let both = both_holding z (p.rows ++ q.rows) a.rows r.0 in
        let v = r.1 in
        (both.0, record { left = v.left; right = v.right; first = v.first; second = v.second; left_has = v.left_has; right_has = v.right_has; first_has = inl (both.1, v.first_has); second_has = v.second_has; is = v.is }))
    | inr k ↦
        (let r = third_had p q rs ss w k in
        let v = r.1 in
        (r.0, record { left = v.left; right = v.right; first = v.first; second = v.second; left_has = v.left_has; right_has = v.right_has; first_has = inr v.first_has; second_has = v.second_has; is = v.is }))
  ]

  second_had : (p : Part) (qs rs ss : List Part) (w : ℕ) → IsOfPart s z (flat_map (λ q. flat_map (λ a. map (four p q a) ss) rs) qs) w
      → Holding z p × IsChosen (HasValue s p.tree z) (IsOfPart s z qs) (IsOfPart s z rs) (IsOfPart s z ss) (words_compare s.width c) w
  second_had p [] rs ss w h = absurd h
  second_had p (q ∷ qs) rs ss w h = elim (in_either s z (flat_map (λ a. map (four p q a) ss) rs) (flat_map (λ x. flat_map (λ a. map (four p x a) ss) rs) qs) w h) [
    | inl k ↦
        (let r = third_had p q rs ss w k in
        let both = both_holding z p.rows q.rows r.0 in
        let v = r.1 in
        (both.0, record { left = v.left; right = v.right; first = v.first; second = v.second; left_has = v.left_has; right_has = inl (both.1, v.right_has); first_has = v.first_has; second_has = v.second_has; is = v.is }))
    | inr k ↦
        (let r = second_had p qs rs ss w k in
        let v = r.1 in
        (r.0, record { left = v.left; right = v.right; first = v.first; second = v.second; left_has = v.left_has; right_has = inr v.right_has; first_has = v.first_has; second_has = v.second_has; is = v.is }))
  ]

  fours_had : (ps qs rs ss : List Part) (w : ℕ) → IsOfPart s z (in_fours (λ p q. choice p c q) ps qs rs ss) w
      → IsChosen (IsOfPart s z ps) (IsOfPart s z qs) (IsOfPart s z rs) (IsOfPart s z ss) (words_compare s.width c) w
  fours_had [] qs rs ss w h = absurd h
  fours_had (p ∷ ps) qs rs ss w h = elim (in_either s z (flat_map (λ q. flat_map (λ a. map (four p q a) ss) rs) qs) (in_fours (λ x q. choice x c q) ps qs rs ss) w h) [
    | inl k ↦
        (let r = second_had p qs rs ss w k in
        let v = r.1 in
        record { left = v.left; right = v.right; first = v.first; second = v.second; left_has = inl (r.0, v.left_has); right_has = v.right_has; first_has = v.first_has; second_has = v.second_has; is = v.is })
    | inr k ↦
        (let v = fours_had ps qs rs ss w k in
        record { left = v.left; right = v.right; first = v.first; second = v.second; left_has = inr v.left_has; right_has = v.right_has; first_has = v.first_has; second_has = v.second_has; is = v.is })
  ]

-- of two counts that are 1 together one is 1 where it is not 0
first_is_one : (a b : ℕ) → a + b ≡ 1 → 1 ≤ a → a ≡ 1
first_is_one a b e h = omega (arith, e, h)

second_is_one : (a b : ℕ) → a + b ≡ 1 → 1 ≤ b → b ≡ 1
second_is_one a b e h = omega (arith, e, h)

mutual
  back : (s : Scene) (ds : List Map) (t : Tree) (z : Point) (w : ℕ) → Chain ds z → Fits s.variables (length (reach ds z)) t → EachPart IsInPlace t → NoPick t → Clear ds (NoReduction t)
      → count s.variables t (reach ds z) ≡ 1 → IsOfPart s z (parts s.variables ds t) w → HasValue s t (reach ds z) w
  back s ds (reference place m) z w h f g n c e (inl v) = let P : Point → Type 0 = λ y. IsWordAt s place y w in subst P (composed_image m ds z h) v.1
  back s ds (reference place m) z w h f g n c e (inr v) = absurd v
  back s ds (constant k) z w h f g n c e (inl v) = v.1
  back s ds (constant k) z w h f g n c e (inr v) = absurd v
  back s ds (binary b l r) z w h f g n c e v =
      let p = pairs_had s z b (parts s.variables ds l) (parts s.variables ds r) w v in
      let ones = one_each _ _ e in
      record {
        left = p.left;
        right = p.right;
        left_has = back s ds l z p.left h f.0 g.1 n.1 (clear_part ds _ _ (λ k. k.1) c) ones.0 p.left_has;
        right_has = back s ds r z p.right h f.1 g.2 n.2 (clear_part ds _ _ (λ k. k.2) c) ones.1 p.right_has;
        is = p.is;
      }
  back s ds (choice l b r x y) z w h f g n c e v =
      let p = fours_had s z b (parts s.variables ds l) (parts s.variables ds r) (parts s.variables ds x) (parts s.variables ds y) w v in
      let last = one_each _ _ e in
      let third = one_each _ _ last.0 in
      let sides = one_each _ _ third.0 in
      record {
        left = p.left;
        right = p.right;
        first = p.first;
        second = p.second;
        left_has = back s ds l z p.left h f.0 g.1 n.1 (clear_part ds _ _ (λ k. k.1) c) sides.0 p.left_has;
        right_has = back s ds r z p.right h f.1 g.2 n.2 (clear_part ds _ _ (λ k. k.2) c) sides.1 p.right_has;
        first_has = back s ds x z p.first h f.2 g.3 n.3 (clear_part ds _ _ (λ k. k.3) c) third.1 p.first_has;
        second_has = back s ds y z p.second h f.3 g.4 n.4 (clear_part ds _ _ (λ k. k.4) c) last.1 p.second_has;
        is = p.is;
      }
  back s ds (restriction d t) z w h f g n c e v =
      let p = both_are (has d (reach ds z)) (count s.variables t (reach ds z)) e in
      (p.0, back s ds t z w h f.1 g.1 n.1 (clear_part ds _ _ (λ k. k.1) c) p.1 (map_had s z (rows_under ds d.rows) (parts s.variables ds t) w v))
  back s ds (cases ts) z w h f g n c e v = (e, back_all s ds ts z w h f g.1 n.1 (clear_part ds _ _ (λ k. k.1) c) e v)
  back s ds (dependence m t) z w h f g n c e v =
      back s (m ∷ ds) t z w (f.0, f.1, h) (let P : ℕ → Type 0 = λ k. Fits s.variables k t in subst P (sym (length-map m.rows (λ x. value_at x (reach ds z)))) f.2) g.1 n.1 g.0 e v
  back s [] (reduction o m t set) z w h f g n c e (inl v) =
      fold_back s m t set z f (caseless t g.0.1) (folded s.width o) w (λ u x few fits once r. back s [] t u x few fits g.1 n.1 tt once r) v.1
  back s [] (reduction o m t set) z w h f g n c e (inr v) = absurd v
  back s (d ∷ ds) (reduction o m t set) z w h f g n c e v = absurd (let k = c.0 in cc)
  back s ds (pick place choices k) z w h f g n c e v = absurd (let a = n in cc)

  back_all : (s : Scene) (ds : List Map) (ts : Trees) (z : Point) (w : ℕ) → Chain ds z → FitAll s.variables (length (reach ds z)) ts → EachPartOfAll IsInPlace ts → EachPartOfAll (λ u. is_pick u ≡ false) ts
      → Clear ds (NoReductionIn ts) → count_all s.variables ts (reach ds z) ≡ 1 → IsOfPart s z (parts_of_all s.variables ds ts) w → IsOfBranch s ts (reach ds z) w
  back_all s ds none z w h f g n c e v = absurd v
  back_all s ds (more t ts) z w h f g n c e v = elim (in_either s z (parts s.variables ds t) (parts_of_all s.variables ds ts) w v) [
    | inl k ↦
        (let some = some_holds s z (parts s.variables ds t) w k in
        let once = first_is_one _ _ e (omega (arith, some, pieces_at s.variables ds t z h f.0)) in
        inl (back s ds t z w h f.0 g.0 n.0 (clear_part ds _ _ (λ x. x.0) c) once k))
    | inr k ↦
        (let some = some_holds s z (parts_of_all s.variables ds ts) w k in
        let once = second_is_one _ _ e (omega (arith, some, pieces_at_all s.variables ds ts z h f.1)) in
        inr (back_all s ds ts z w h f.1 g.1 n.1 (clear_part ds _ _ (λ x. x.1) c) once k))
  ]

pub words_of_parts : (s : Scene) (t : Tree) (z : Point) (w : ℕ) → length z ≤ 4 → Fits s.variables (length z) t → EachPart IsInPlace t → EachPart (λ u. is_pick u ≡ false) t
    → HasValue s t z w ↔ ((count s.variables t z ≡ 1) × IsOfPart s z (parts s.variables [] t) w)
words_of_parts s t z w few f g n = (
  (λ v. (value_counted s t z w v, forth s [] t z w few f g n tt v)),
  (λ v. back s [] t z w few f g n tt v.0 v.1),
)
