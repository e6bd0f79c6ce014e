-- What holds of the trees of parts: no case, restriction, dependence or pick, and each reference reads a declared point where the rows hold.
use Rattle.std.proofs.Common.{◌≡◌, ℕ, ◌<◌, ◌≤◌, false, IsTrue, pos, List, [], ◌∷◌, ◌++◌, length, map, Some, slice_get, refl, sym, ap, subst, ◌∙◌, arith, All}
use Rattle.std.specs.List.{flat_map, list_all}
use Rattle.std.proofs.lemmas.List.{length-map}
use Rattle.std.proofs.lemmas.List.Folds.{list_all-append}
use Rattle.std.proofs.lemmas.List.Elements.{All-nil, All-cons, All-head, All-tail, All-map, All-weaker, All-append}
use Rattle.av_affine.specs.declared.form.Form.{Form}
use Rattle.av_affine.specs.declared.map.Map.{Map}
use Rattle.av_affine.specs.Forms.{value_at}
use Rattle.av_affine.specs.Maps.{image, through, composition}
use Rattle.av_poly.specs.Points.{Set}
use Rattle.av_poly.specs.Preimages.{rows_before}
use Rattle.av_tree.specs.Points.{Point}
use Rattle.av_flat.specs.Trees.{Tree, Trees, reference, constant, binary, choice, restriction, cases, dependence, reduction, pick, none, more}
use Rattle.av_flat.specs.Points.{holds, point_over}
use Rattle.av_flat.specs.Signatures.{Signature, is_declared_at}
use Rattle.av_flat.specs.Counts.{count}
use Rattle.av_flat.specs.WellFormed.{Fits, FitAll, Leads, EachPart, EachPartOfAll, IsInPlace, IsProjection, is_reduction, is_pick}
use Rattle.av_flat.specs.Quantities.{steps, steps_under, composed_maps, composed_maps_of_all}
use Rattle.av_flat.specs.Pieces.{Part, part, rows_of, composed, rows_under, first_part, parts, parts_of_all}
use Rattle.av_flat.proofs.Sets.{both_true, both_hold}
use Rattle.av_flat.proofs.Parts.{reach, Chain, composed_image, declared_where, length_parts, composed_from}
use Rattle.av_flat.proofs.PieceValues.{caseless, if_here, over_length}
use Rattle.av_tree.proofs.Words.{product_one}
use Rattle.av_base.proofs.Lists.{all_parts}

-- ---- rows that hold

abbrev pub Hold : List Form → Point → Type 0
Hold rows z = IsTrue (list_all (holds z) rows)

pub hold_both : (a b : List Form) (z : Point) → Hold a z → Hold b z → Hold (a ++ b) z
hold_both a b z p q = list_all-append (holds z) a b ∙ both_hold (list_all (holds z) a) (list_all (holds z) b) p q

pub both_of : (a b : List Form) (z : Point) → Hold (a ++ b) z → Hold a z × Hold b z
both_of a b z h = both_true (list_all (holds z) a) (list_all (holds z) b) (sym (list_all-append (holds z) a b) ∙ h)

-- where the first rows hold at a point of n entries, the others do
abbrev pub Implies : ℕ → List Form → List Form → Type 0
Implies n rows others = (z : Point) → length z ≡ n → Hold rows z → Hold others z

-- ---- trees of parts

-- the reference reads a declared point at each point of n entries where the rows hold
pub record IsRead (vs : List Signature) (M : Map → Type 0) (n : ℕ) (rows : List Form) (place : ℕ) (m : Map) : Type 0 where
  pub leads : Leads vs n m place
  pub map_is : M m
  pub declared : (z : Point) → length z ≡ n → Hold rows z → IsTrue (is_declared_at vs place (image m.rows z))

pub record IsReduced (M : Map → Type 0) (S : Set → Type 0) (n : ℕ) (m : Map) (set : Set) : Type 0 where
  pub projection : IsProjection m
  pub results : length m.rows ≡ n
  pub few : m.from ≤ 4
  pub dimension : set.dim ≡ m.from
  pub map_is : M m
  pub set_is : S set

-- over n indices, where the rows hold; M holds of each map, W of each constant, S of each set of a reduction
abbrev pub IsLaid : List Signature → (Map → Type 0) → (ℕ → Type 0) → (Set → Type 0) → ℕ → List Form → Tree → Type 0
IsLaid vs M W S n rows (reference place m) = IsRead vs M n rows place m
IsLaid vs M W S n rows (constant k) = W k
IsLaid vs M W S n rows (binary s l r) = IsLaid vs M W S n rows l × IsLaid vs M W S n rows r
IsLaid vs M W S n rows (choice l c r x y) = IsLaid vs M W S n rows l × IsLaid vs M W S n rows r × IsLaid vs M W S n rows x × IsLaid vs M W S n rows y
IsLaid vs M W S n rows (reduction o m t set) = IsReduced M S n m set × IsLaid vs M W S m.from set.rows t
IsLaid vs M W S n rows _ = ⊥

abbrev pub Anything : {X : Type 0} → X → Type 0
Anything x = Unit {0}

pub looser : (vs : List Signature) (M : Map → Type 0) (W : ℕ → Type 0) (S : Set → Type 0) (n : ℕ) (rows others : List Form) (t : Tree) → Implies n others rows
    → IsLaid vs M W S n rows t → IsLaid vs M W S n others t
looser vs M W S n rows others (reference place m) i a = record { leads = a.leads; map_is = a.map_is; declared = λ z e h. a.declared z e (i z e h) }
looser vs M W S n rows others (constant k) i a = a
looser vs M W S n rows others (binary s l r) i a = (looser vs M W S n rows others l i a.0, looser vs M W S n rows others r i a.1)
looser vs M W S n rows others (choice l c r x y) i a =
    (looser vs M W S n rows others l i a.0, looser vs M W S n rows others r i a.1, looser vs M W S n rows others x i a.2, looser vs M W S n rows others y i a.3)
looser vs M W S n rows others (reduction o m t set) i a = a
looser vs M W S n rows others t i a = absurd a

-- where the rows hold, there is one word
pub count_one : (vs : List Signature) (M : Map → Type 0) (W : ℕ → Type 0) (S : Set → Type 0) (n : ℕ) (rows : List Form) (t : Tree) (z : Point) → IsLaid vs M W S n rows t
    → length z ≡ n → Hold rows z → count vs t z ≡ 1
count_one vs M W S n rows (reference place m) z a e h = if_here _ (a.declared z e h)
count_one vs M W S n rows (constant k) z a e h = refl
count_one vs M W S n rows (binary s l r) z a e h = product_one _ _ (count_one vs M W S n rows l z a.0 e h) (count_one vs M W S n rows r z a.1 e h)
count_one vs M W S n rows (choice l c r x y) z a e h =
    product_one _ _ (product_one _ _ (product_one _ _ (count_one vs M W S n rows l z a.0 e h) (count_one vs M W S n rows r z a.1 e h)) (count_one vs M W S n rows x z a.2 e h)) (count_one vs M W S n rows y z a.3 e h)
count_one vs M W S n rows (reduction o m t set) z a e h = refl
count_one vs M W S n rows t z a e h = absurd a

-- ---- dependences

composed_of : (M : Map → Type 0) (m : Map) (ds : List Map) → M m → All M (steps m ds) → M (composed m ds)
composed_of M m [] p h = p
composed_of M m (d ∷ ds) p h =
    composed_of M (composition m d) ds (All-head M (composition m d) (steps (composition m d) ds) h) (All-tail M (composition m d) (steps (composition m d) ds) h)

pub composed_length : (m : Map) (ds : List Map) → length (composed m ds).rows ≡ length m.rows
composed_length m [] = refl
composed_length m (d ∷ ds) = composed_length (composition m d) ds ∙ length-map m.rows (through d.from d.rows)

same_reach : (ds : List Map) (y z : Point) → length y ≡ length z → length (reach ds y) ≡ length (reach ds z)
same_reach [] y z e = e
same_reach (d ∷ ds) y z e = length-map d.rows (λ f. value_at f (reach ds y)) ∙ sym (length-map d.rows (λ f. value_at f (reach ds z)))

same_chain : (ds : List Map) (y z : Point) → length y ≡ length z → Chain ds z → Chain ds y
same_chain [] y z e h = omega (arith, e, h)
same_chain (d ∷ ds) y z e h = (h.0 ∙ sym (same_reach ds y z e), h.1, same_chain ds y z e h.2)

-- ---- lists of parts

all_mapped : {X Y : Type 0} (P : X → Type 0) (Q : Y → Type 0) (g : X → Y) → ((x : X) → P x → Q (g x)) → (xs : List X) → All P xs → All Q (map g xs)
all_mapped P Q g f xs h = All-map Q g xs (All-weaker P (λ x. Q (g x)) f xs h)

all_spread : {X Y : Type 0} (P : X → Type 0) (Q : Y → Type 0) (g : X → List Y) → ((x : X) → P x → All Q (g x)) → (xs : List X) → All P xs → All Q (flat_map g xs)
all_spread P Q g f [] h = All-nil Q
all_spread P Q g f (x ∷ xs) h = All-append Q (g x) (flat_map g xs) (f x (All-head P x xs h)) (all_spread P Q g f xs (All-tail P x xs h))

only_part : (P : Part → Type 0) (ps : List Part) → All P ps → length ps ≡ 1 → P (first_part ps)
only_part P [] h e = absurd (omega (arith, e))
only_part P (p ∷ ps) h e = All-head P p ps h

-- ---- the parts of a tree

-- M holds of the part's own map, W of its constant
abbrev pub Own : (Map → Type 0) → (ℕ → Type 0) → Tree → Type 0
Own M W (reference place m) = M m
Own M W (constant n) = W n
Own M W (reduction o m t set) = M m
Own M W _ = Unit {0}

-- under dependences no reduction stands
abbrev pub Clear : List Map → Type 0 → Type 0
Clear ds T = 0 < length ds → T

module _ (vs : List Signature) (M : Map → Type 0) (W : ℕ → Type 0) where
  abbrev pub IsLaidPart : ℕ → Part → Type 0
  IsLaidPart n p = IsLaid vs M W Anything n p.rows p.tree

  loosened : (n : ℕ) (rows others : List Form) (t : Tree) → Implies n others rows → IsLaid vs M W Anything n rows t → IsLaid vs M W Anything n others t
  loosened n rows others t i a = looser vs M W Anything n rows others t i a

  laid_pair : (n : ℕ) (a b : List Form) (s t : Tree) → IsLaid vs M W Anything n a s → IsLaid vs M W Anything n b t → IsLaid vs M W Anything n (a ++ b) s × IsLaid vs M W Anything n (a ++ b) t
  laid_pair n a b s t p q = (loosened n a (a ++ b) s (λ z e h. (both_of a b z h).0) p, loosened n b (a ++ b) t (λ z e h. (both_of a b z h).1) q)

  mutual
    pub laid_parts : (ds : List Map) (t : Tree) (z : Point) → Chain ds z → Fits vs (length (reach ds z)) t → EachPart IsInPlace t → EachPart (λ u. is_pick u ≡ false) t
        → Clear ds (EachPart (λ u. is_reduction u ≡ false) t) → EachPart (Own M W) t → All M (composed_maps ds t) → All (IsLaidPart (length z)) (parts vs ds t)
    laid_parts ds (reference place m) z h f g n c o w =
        All-cons (IsLaidPart (length z)) (part (rows_before (composed m ds) (rows_of (slice_get vs place))) (reference place (composed m ds))) [] (record {
          leads = record { from = composed_from m ds z f.from h; results = f.results ∙ ap Some (sym (composed_length m ds)) };
          map_is = composed_of M m ds o w;
          declared = λ y e k.
              let chain = same_chain ds y z e h in
              ap (λ x. is_declared_at vs place x) (composed_image m ds y chain)
              ∙ declared_where vs ds place m y chain (record { from = f.from ∙ sym (same_reach ds y z e); results = f.results }) ∙ k;
        }) (All-nil (IsLaidPart (length z)))
    laid_parts ds (constant k) z h f g n c o w = All-cons (IsLaidPart (length z)) (part [] (constant k)) [] o (All-nil (IsLaidPart (length z)))
    laid_parts ds (binary s l r) z h f g n c o w =
        let P = IsLaidPart (length z) in
        let v = all_parts M (composed_maps ds l) (composed_maps ds r) w in
        all_spread P P (λ p. map (λ q. part (p.rows ++ q.rows) (binary s p.tree q.tree)) (parts vs ds r))
        (λ p at_p. all_mapped P P (λ q. part (p.rows ++ q.rows) (binary s p.tree q.tree)) (λ q at_q. laid_pair (length z) p.rows q.rows p.tree q.tree at_p at_q)
        (parts vs ds r) (laid_parts ds r z h f.1 g.2 n.2 (λ k. (c k).2) o.2 v.1))
        (parts vs ds l) (laid_parts ds l z h f.0 g.1 n.1 (λ k. (c k).1) o.1 v.0)
    laid_parts ds (choice l b r x y) z h f g n c o w =
        let P = IsLaidPart (length z) in
        let last = all_parts M (composed_maps ds l ++ composed_maps ds r ++ composed_maps ds x) (composed_maps ds y) w in
        let third = all_parts M (composed_maps ds l ++ composed_maps ds r) (composed_maps ds x) last.0 in
        let sides = all_parts M (composed_maps ds l) (composed_maps ds r) third.0 in
        all_spread P P (λ p. flat_map (λ q. flat_map (λ a. map (λ e. part (p.rows ++ q.rows ++ a.rows ++ e.rows) (choice p.tree b q.tree a.tree e.tree)) (parts vs ds y)) (parts vs ds x)) (parts vs ds r))
        (λ p at_p. all_spread P P (λ q. flat_map (λ a. map (λ e. part (p.rows ++ q.rows ++ a.rows ++ e.rows) (choice p.tree b q.tree a.tree e.tree)) (parts vs ds y)) (parts vs ds x))
        (λ q at_q. all_spread P P (λ a. map (λ e. part (p.rows ++ q.rows ++ a.rows ++ e.rows) (choice p.tree b q.tree a.tree e.tree)) (parts vs ds y))
        (λ a at_a. all_mapped P P (λ e. part (p.rows ++ q.rows ++ a.rows ++ e.rows) (choice p.tree b q.tree a.tree e.tree))
        (λ e at_e.
        let all = p.rows ++ q.rows ++ a.rows ++ e.rows in
        let three = λ (u : Point) (k : Hold all u). (both_of (p.rows ++ q.rows ++ a.rows) e.rows u k).0 in
        let two = λ (u : Point) (k : Hold all u). (both_of (p.rows ++ q.rows) a.rows u (three u k)).0 in (
          loosened (length z) p.rows all p.tree (λ u i k. (both_of p.rows q.rows u (two u k)).0) at_p,
          loosened (length z) q.rows all q.tree (λ u i k. (both_of p.rows q.rows u (two u k)).1) at_q,
          loosened (length z) a.rows all a.tree (λ u i k. (both_of (p.rows ++ q.rows) a.rows u (three u k)).1) at_a,
          loosened (length z) e.rows all e.tree (λ u i k. (both_of (p.rows ++ q.rows ++ a.rows) e.rows u k).1) at_e,
        ))
        (parts vs ds y) (laid_parts ds y z h f.3 g.4 n.4 (λ k. (c k).4) o.4 last.1))
        (parts vs ds x) (laid_parts ds x z h f.2 g.3 n.3 (λ k. (c k).3) o.3 third.1))
        (parts vs ds r) (laid_parts ds r z h f.1 g.2 n.2 (λ k. (c k).2) o.2 sides.1))
        (parts vs ds l) (laid_parts ds l z h f.0 g.1 n.1 (λ k. (c k).1) o.1 sides.0)
    laid_parts ds (restriction d t) z h f g n c o w =
        let P = IsLaidPart (length z) in
        all_mapped P P (λ p. part (rows_under ds d.rows ++ p.rows) p.tree)
        (λ p at_p. loosened (length z) p.rows (rows_under ds d.rows ++ p.rows) p.tree (λ u e k. (both_of (rows_under ds d.rows) p.rows u k).1) at_p)
        (parts vs ds t) (laid_parts ds t z h f.1 g.1 n.1 (λ k. (c k).1) o.1 (all_parts M (steps_under ds) (composed_maps ds t) w).1)
    laid_parts ds (cases ts) z h f g n c o w = laid_parts_of_all ds ts z h f g.1 n.1 (λ k. (c k).1) o.1 w
    laid_parts ds (dependence m t) z h f g n c o w =
        laid_parts (m ∷ ds) t z (f.0, f.1, h) (let P : ℕ → Type 0 = λ k. Fits vs k t in subst P (sym (length-map m.rows (λ e. value_at e (reach ds z)))) f.2) g.1 n.1 (λ k. g.0) o.1 w
    laid_parts [] (reduction o m t set) z h f g n c own w =
        let y = point_over m z (pos 0) in
        let size = over_length m z (pos 0) in
        let fits : Fits vs (length y) t = (let P : ℕ → Type 0 = λ k. Fits vs k t in subst P (sym size) f.3) in
        let body = first_part (parts vs [] t) in
        let rec = only_part (IsLaidPart (length y)) (parts vs [] t) (laid_parts [] t y (let few = f.1 in omega (arith, size, few)) fits g.1 n.1 (λ k. absurd (omega (arith, k))) own.1 w) (length_parts vs [] t ∙ caseless t g.0.1) in
        let laid : IsLaid vs M W Anything m.from body.rows body.tree = (let P : ℕ → Type 0 = λ k. IsLaid vs M W Anything k body.rows body.tree in subst P size rec) in
        All-cons (IsLaidPart (length z)) (part [] (reduction o m body.tree (record { dim = m.from; rows = set.rows ++ body.rows }))) [] (
          record { projection = g.0.0; results = f.0; few = f.1; dimension = refl; map_is = own.0; set_is = tt },
          loosened m.from body.rows (set.rows ++ body.rows) body.tree (λ u e k. (both_of set.rows body.rows u k).1) laid,
        ) (All-nil (IsLaidPart (length z)))
    laid_parts (d ∷ ds) (reduction o m t set) z h f g n c own w = absurd (let k = (c (omega arith)).0 in cc)
    laid_parts ds (pick place choices k) z h f g n c o w = absurd (let a = n in cc)

    laid_parts_of_all : (ds : List Map) (ts : Trees) (z : Point) → Chain ds z → FitAll vs (length (reach ds z)) ts → EachPartOfAll IsInPlace ts → EachPartOfAll (λ u. is_pick u ≡ false) ts
        → Clear ds (EachPartOfAll (λ u. is_reduction u ≡ false) ts) → EachPartOfAll (Own M W) ts → All M (composed_maps_of_all ds ts) → All (IsLaidPart (length z)) (parts_of_all vs ds ts)
    laid_parts_of_all ds none z h f g n c o w = All-nil (IsLaidPart (length z))
    laid_parts_of_all ds (more t ts) z h f g n c o w =
        let v = all_parts M (composed_maps ds t) (composed_maps_of_all ds ts) w in
        All-append (IsLaidPart (length z)) (parts vs ds t) (parts_of_all vs ds ts) (laid_parts ds t z h f.0 g.0 n.0 (λ k. (c k).0) o.0 v.0)
        (laid_parts_of_all ds ts z h f.1 g.1 n.1 (λ k. (c k).1) o.1 v.1)
