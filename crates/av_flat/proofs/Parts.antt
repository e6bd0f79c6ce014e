-- A tree has as many words at a point as it has pieces that hold there.
use Rattle.std.proofs.Common.{◌≡◌, ℕ, ◌+◌, ◌*◌, ◌≤◌, pos, Bool, true, false, if◌then◌else◌, Option, Some, None, List, [], ◌∷◌, ◌++◌, length, map, refl, sym, ap, subst, arith, ◌∙◌, add_assoc, zero-add, add-zero, mul-zero, zero-mul, one-mul, mul-add, add-mul, mul_assoc, mul_left_comm, suc-mul, add_comm, length-append}
use Rattle.std.specs.Prelude.{nat_eq, int_le, ◌&&◌, slice_get}
use Rattle.std.specs.List.{flat_map, list_all}
use Rattle.std.proofs.lemmas.List.{length-map}
use Rattle.std.proofs.lemmas.List.Folds.{list_all-append}
use Rattle.av_affine.specs.declared.form.Form.{Form}
use Rattle.av_affine.specs.declared.map.Map.{Map}
use Rattle.av_affine.specs.Forms.{value_at}
use Rattle.av_affine.specs.Maps.{image, through, composition}
use Rattle.av_affine.proofs.Composing.{value_through, image_through}
use Rattle.av_poly.specs.Preimages.{rows_before}
use Rattle.av_tree.specs.Points.{Point}
use Rattle.av_flat.specs.Trees.{Tree, Trees, reference, constant, binary, choice, restriction, cases, dependence, reduction, pick, none, more}
use Rattle.av_flat.specs.Points.{holds}
use Rattle.av_flat.specs.Signatures.{Signature, is_declared_at, domain_has}
use Rattle.av_flat.specs.Counts.{count, count_all}
use Rattle.av_flat.specs.WellFormed.{Fits, FitAll, Leads, dimension_of}
use Rattle.av_flat.proofs.Sets.{is_equal}
use Rattle.av_flat.specs.Quantities.{piece_count, piece_count_of_all}
use Rattle.av_flat.specs.Pieces.{Part, part, rows_of, composed, rows_under, in_pairs, in_fours, parts, parts_of_all, one_where, holding}

-- ---- products of parts

one_both : (a b : Bool) → (if a && b then 1 else 0) ≡ (if a then 1 else 0) * (if b then 1 else 0)
one_both true true = refl
one_both true false = refl
one_both false true = refl
one_both false false = refl

one_append : (z : Point) (rows more_rows : List Form) → one_where z (rows ++ more_rows) ≡ one_where z rows * one_where z more_rows
one_append z rows more_rows = ap (λ b. if b then 1 else 0) (list_all-append (holds z) rows more_rows) ∙ one_both (list_all (holds z) rows) (list_all (holds z) more_rows)

holding_append : (z : Point) (ps qs : List Part) → holding z (ps ++ qs) ≡ holding z ps + holding z qs
holding_append z [] qs = sym (zero-add (holding z qs))
holding_append z (p ∷ ps) qs = rw (holding_append z ps qs) (sym (add_assoc (one_where z p.rows) (holding z ps) (holding z qs)))

-- the rows of each part follow others
holding_after : (z : Point) (rows : List Form) (f : Part → Tree) (ps : List Part) → holding z (map (λ p. part (rows ++ p.rows) (f p)) ps) ≡ one_where z rows * holding z ps
holding_after z rows f [] = sym (mul-zero (one_where z rows))
holding_after z rows f (p ∷ ps) = rw (one_append z rows p.rows, holding_after z rows f ps) (sym (mul-add (one_where z rows) (one_where z p.rows) (holding z ps)))

-- each part gives as many as k where it holds, and none elsewhere
holding_spread : (z : Point) (k : ℕ) (g : Part → List Part) → ((p : Part) → holding z (g p) ≡ one_where z p.rows * k) → (ps : List Part) → holding z (flat_map g ps) ≡ holding z ps * k
holding_spread z k g h [] = sym (zero-mul k)
holding_spread z k g h (p ∷ ps) = holding_append z (g p) (flat_map g ps) ∙ rw (h p, holding_spread z k g h ps) (sym (add-mul (one_where z p.rows) (holding z ps) k))

holding_pairs : (z : Point) (f : Tree → Tree → Tree) (ps qs : List Part) → holding z (in_pairs f ps qs) ≡ holding z ps * holding z qs
holding_pairs z f ps qs = holding_spread z (holding z qs) (λ p. map (λ q. part (p.rows ++ q.rows) (f p.tree q.tree)) qs) (λ p. holding_after z p.rows (λ q. f p.tree q.tree) qs) ps

-- factors in another order
to_third : (a b c d : ℕ) → a * b * c * d ≡ c * (a * b * d)
to_third a b c d = mul_assoc (a * b) c d ∙ mul_left_comm (a * b) c d

to_second : (a b c d : ℕ) → c * (a * b * d) ≡ b * (a * (c * d))
to_second a b c d = ap (λ x. c * x) (mul_assoc a b d) ∙ mul_left_comm c a (b * d) ∙ ap (λ x. a * x) (mul_left_comm c b d) ∙ mul_left_comm a b (c * d)

pub in_order : (a b c d : ℕ) → a * (b * (c * d)) ≡ a * b * c * d
in_order a b c d = sym (mul_assoc (a * b) c d ∙ mul_assoc a b (c * d))

module _ (z : Point) (f : Tree → Tree → Tree → Tree → Tree) (rs ss : List Part) where
  abbrev fourth : Part → Part → Part → List Part
  fourth p q r = map (λ s. part (p.rows ++ q.rows ++ r.rows ++ s.rows) (f p.tree q.tree r.tree s.tree)) ss

  holding_fourth : (p q r : Part) → holding z (fourth p q r) ≡ one_where z r.rows * (one_where z p.rows * one_where z q.rows * holding z ss)
  holding_fourth p q r =
      holding_after z (p.rows ++ q.rows ++ r.rows) (λ s. f p.tree q.tree r.tree s.tree) ss
      ∙ ap (λ k. k * holding z ss) (one_append z (p.rows ++ q.rows) r.rows ∙ ap (λ k. k * one_where z r.rows) (one_append z p.rows q.rows))
      ∙ to_third (one_where z p.rows) (one_where z q.rows) (one_where z r.rows) (holding z ss)

  abbrev third : Part → Part → List Part
  third p q = flat_map (fourth p q) rs

  holding_third : (p q : Part) → holding z (third p q) ≡ one_where z q.rows * (one_where z p.rows * (holding z rs * holding z ss))
  holding_third p q =
      holding_spread z (one_where z p.rows * one_where z q.rows * holding z ss) (fourth p q) (holding_fourth p q) rs
      ∙ to_second (one_where z p.rows) (one_where z q.rows) (holding z rs) (holding z ss)

  holding_second : (qs : List Part) (p : Part) → holding z (flat_map (third p) qs) ≡ one_where z p.rows * (holding z qs * (holding z rs * holding z ss))
  holding_second qs p =
      holding_spread z (one_where z p.rows * (holding z rs * holding z ss)) (third p) (holding_third p) qs
      ∙ mul_left_comm (holding z qs) (one_where z p.rows) (holding z rs * holding z ss)

holding_fours : (z : Point) (f : Tree → Tree → Tree → Tree → Tree) (ps qs rs ss : List Part)
    → holding z (in_fours f ps qs rs ss) ≡ holding z ps * holding z qs * holding z rs * holding z ss
holding_fours z f ps qs rs ss =
    holding_spread z (holding z qs * (holding z rs * holding z ss)) (λ p. flat_map (third z f rs ss p) qs) (holding_second z f rs ss qs) ps
    ∙ in_order (holding z ps) (holding z qs) (holding z rs) (holding z ss)

-- ---- images

-- the point at which a tree stands under dependences, the innermost first
abbrev pub reach : List Map → Point → Point
reach [] z = z
reach (d ∷ ds) z = image d.rows (reach ds z)

-- each map leads from the dimension before it, and none has more than four indices
abbrev pub Chain : List Map → Point → Type 0
Chain [] z = length z ≤ 4
Chain (d ∷ ds) z = (d.from ≡ length (reach ds z)) × (length d.rows ≤ 4) × Chain ds z

reached : (ds : List Map) (z : Point) → Chain ds z → length (reach ds z) ≤ 4
reached [] z h = h
reached (d ∷ ds) z h = let e = length-map d.rows (λ f. value_at f (reach ds z)) in let k = h.1 in omega (arith, e, k)

begun : (ds : List Map) (z : Point) → Chain ds z → length z ≤ 4
begun [] z h = h
begun (d ∷ ds) z h = begun ds z h.2

pub composed_from : (m : Map) (ds : List Map) (z : Point) → m.from ≡ length (reach ds z) → Chain ds z → (composed m ds).from ≡ length z
composed_from m [] z e h = e
composed_from m (d ∷ ds) z e h = composed_from (composition m d) ds z h.0 h.2

pub composed_image : (m : Map) (ds : List Map) (z : Point) → Chain ds z → image (composed m ds).rows z ≡ image m.rows (reach ds z)
composed_image m [] z h = refl
composed_image m (d ∷ ds) z h =
    composed_image (composition m d) ds z h.2
    ∙ ap (λ n. image (map (through n d.rows) m.rows) (reach ds z)) h.0
    ∙ image_through m.rows d.rows (reach ds z) (reached ds z h.2)

rows_at : (m : Map) (rows : List Form) (z : Point) → m.from ≡ length z → length z ≤ 4 → list_all (holds z) (rows_before m rows) ≡ list_all (holds (image m.rows z)) rows
rows_at m [] z e h = refl
rows_at m (row ∷ rows) z e h =
    let value_is : value_at (through m.from m.rows row) z ≡ value_at row (image m.rows z) = ap (λ n. value_at (through n m.rows row) z) e ∙ value_through row m.rows z h in
    ap (λ x. int_le (pos 0) x && list_all (holds z) (rows_before m rows)) value_is ∙ ap (λ b. holds (image m.rows z) row && b) (rows_at m rows z e h)

pub rows_reach : (m : Map) (ds : List Map) (rows : List Form) (z : Point) → m.from ≡ length (reach ds z) → Chain ds z
    → list_all (holds z) (rows_before (composed m ds) rows) ≡ list_all (holds (image m.rows (reach ds z))) rows
rows_reach m ds rows z e h = rows_at (composed m ds) rows z (composed_from m ds z e h) (begun ds z h) ∙ ap (λ y. list_all (holds y) rows) (composed_image m ds z h)

pub under_at : (ds : List Map) (rows : List Form) (z : Point) → Chain ds z → list_all (holds z) (rows_under ds rows) ≡ list_all (holds (reach ds z)) rows
under_at [] rows z h = refl
under_at (d ∷ ds) rows z h = rows_reach d ds rows z h.0 h.2

-- ---- the number of pieces that hold

pub fitting : (m n : ℕ) (b : Bool) → m ≡ n → (nat_eq m n && b) ≡ b
fitting m n b e = ap (λ t. t && b) (is_equal m n e)

pub declared_is : (o : Option Signature) (m : Map) (y : Point) → dimension_of o ≡ Some (length m.rows) → domain_has o (image m.rows y) ≡ list_all (holds (image m.rows y)) (rows_of o)
declared_is None m y e = absurd cc
declared_is (Some v) m y e = fitting (length (image m.rows y)) v.domain.dim _ (length-map m.rows (λ f. value_at f y) ∙ sym (the_same _ _ e))
  where
    the_same : (a b : ℕ) → Some a ≡ Some b → a ≡ b
    the_same a b p = cc

-- a reference reads a declared point exactly where its rows hold
pub declared_where : (vs : List Signature) (ds : List Map) (place : ℕ) (m : Map) (z : Point) → Chain ds z → Leads vs (length (reach ds z)) m place
    → is_declared_at vs place (image m.rows (reach ds z)) ≡ list_all (holds z) (rows_before (composed m ds) (rows_of (slice_get vs place)))
declared_where vs ds place m z h f = declared_is (slice_get vs place) m (reach ds z) f.results ∙ sym (rows_reach m ds (rows_of (slice_get vs place)) z f.from h)

if_is : (b : Bool) (n : ℕ) → (if b then n else 0) ≡ (if b then 1 else 0) * n
if_is true n = sym (one-mul n)
if_is false n = sym (zero-mul n)

mutual
  pub pieces_at : (vs : List Signature) (ds : List Map) (t : Tree) (z : Point) → Chain ds z → Fits vs (length (reach ds z)) t → count vs t (reach ds z) ≡ holding z (parts vs ds t)
  pieces_at vs ds (reference place m) z h f = ap (λ b. if b then 1 else 0) (declared_where vs ds place m z h f) ∙ sym (add-zero _)
  pieces_at vs ds (constant n) z h f = refl
  pieces_at vs ds (binary s l r) z h f = rw (pieces_at vs ds l z h f.0, pieces_at vs ds r z h f.1) (sym (holding_pairs z (binary s) (parts vs ds l) (parts vs ds r)))
  pieces_at vs ds (choice l c r x y) z h f =
      rw (pieces_at vs ds l z h f.0, pieces_at vs ds r z h f.1, pieces_at vs ds x z h f.2, pieces_at vs ds y z h f.3)
      (sym (holding_fours z (λ p q. choice p c q) (parts vs ds l) (parts vs ds r) (parts vs ds x) (parts vs ds y)))
  pieces_at vs ds (restriction d t) z h f =
      let inside = fitting (length (reach ds z)) d.dim (list_all (holds (reach ds z)) d.rows) (sym f.0) ∙ sym (under_at ds d.rows z h) in
      ap (λ b. if b then count vs t (reach ds z) else 0) inside
      ∙ if_is (list_all (holds z) (rows_under ds d.rows)) (count vs t (reach ds z))
      ∙ ap (λ k. one_where z (rows_under ds d.rows) * k) (pieces_at vs ds t z h f.1)
      ∙ sym (holding_after z (rows_under ds d.rows) (λ p. p.tree) (parts vs ds t))
  pieces_at vs ds (cases ts) z h f = pieces_at_all vs ds ts z h f
  pieces_at vs ds (dependence m t) z h f =
      pieces_at vs (m ∷ ds) t z (f.0, f.1, h) (let P : ℕ → Type 0 = λ n. Fits vs n t in subst P (sym (length-map m.rows (λ g. value_at g (reach ds z)))) f.2)
  pieces_at vs ds (reduction o m t set) z h f = refl
  pieces_at vs ds (pick place choices n) z h f = refl

  pub pieces_at_all : (vs : List Signature) (ds : List Map) (ts : Trees) (z : Point) → Chain ds z → FitAll vs (length (reach ds z)) ts
      → count_all vs ts (reach ds z) ≡ holding z (parts_of_all vs ds ts)
  pieces_at_all vs ds none z h f = refl
  pieces_at_all vs ds (more t ts) z h f = rw (pieces_at vs ds t z h f.0, pieces_at_all vs ds ts z h f.1) (sym (holding_append z (parts vs ds t) (parts_of_all vs ds ts)))

pub pieces_counted : (vs : List Signature) (t : Tree) (z : Point) → length z ≤ 4 → Fits vs (length z) t → count vs t z ≡ holding z (parts vs [] t)
pieces_counted vs t z h f = pieces_at vs [] t z h f

-- ---- the number of pieces

length_spread : {X : Type 0} (k : ℕ) (g : X → List Part) → ((x : X) → length (g x) ≡ k) → (xs : List X) → length (flat_map g xs) ≡ length xs * k
length_spread k g h [] = sym (zero-mul k)
length_spread k g h (x ∷ xs) = length-append (g x) (flat_map g xs) ∙ rw (h x, length_spread k g h xs) (sym (suc-mul (length xs) k ∙ add_comm (length xs * k) k))

length_pairs : (f : Tree → Tree → Tree) (ps qs : List Part) → length (in_pairs f ps qs) ≡ length ps * length qs
length_pairs f ps qs = length_spread (length qs) (λ p. map (λ q. part (p.rows ++ q.rows) (f p.tree q.tree)) qs) (λ p. length-map qs (λ q. part (p.rows ++ q.rows) (f p.tree q.tree))) ps

length_fours : (f : Tree → Tree → Tree → Tree → Tree) (ps qs rs ss : List Part) → length (in_fours f ps qs rs ss) ≡ length ps * length qs * length rs * length ss
length_fours f ps qs rs ss =
    length_spread (length qs * (length rs * length ss)) second
    (λ p. length_spread (length rs * length ss) (third_of p) (λ q. length_spread (length ss) (fourth_of p q) (λ r. length-map ss (last_of p q r)) rs) qs) ps
    ∙ in_order (length ps) (length qs) (length rs) (length ss)
  where
    last_of : Part → Part → Part → Part → Part
    last_of p q r s = part (p.rows ++ q.rows ++ r.rows ++ s.rows) (f p.tree q.tree r.tree s.tree)

    fourth_of : Part → Part → Part → List Part
    fourth_of p q r = map (last_of p q r) ss

    third_of : Part → Part → List Part
    third_of p q = flat_map (fourth_of p q) rs

    second : Part → List Part
    second p = flat_map (third_of p) qs

mutual
  pub length_parts : (vs : List Signature) (ds : List Map) (t : Tree) → length (parts vs ds t) ≡ piece_count t
  length_parts vs ds (reference place m) = refl
  length_parts vs ds (constant n) = refl
  length_parts vs ds (binary s l r) = length_pairs (binary s) (parts vs ds l) (parts vs ds r) ∙ rw (length_parts vs ds l, length_parts vs ds r) refl
  length_parts vs ds (choice l c r x y) =
      length_fours (λ p q. choice p c q) (parts vs ds l) (parts vs ds r) (parts vs ds x) (parts vs ds y)
      ∙ rw (length_parts vs ds l, length_parts vs ds r, length_parts vs ds x, length_parts vs ds y) refl
  length_parts vs ds (restriction d t) = length-map (parts vs ds t) (λ p. part (rows_under ds d.rows ++ p.rows) p.tree) ∙ length_parts vs ds t
  length_parts vs ds (cases ts) = length_parts_of_all vs ds ts
  length_parts vs ds (dependence m t) = length_parts vs (m ∷ ds) t
  length_parts vs ds (reduction o m t set) = refl
  length_parts vs ds (pick place choices n) = refl

  length_parts_of_all : (vs : List Signature) (ds : List Map) (ts : Trees) → length (parts_of_all vs ds ts) ≡ piece_count_of_all ts
  length_parts_of_all vs ds none = refl
  length_parts_of_all vs ds (more t ts) = length-append (parts vs ds t) (parts_of_all vs ds ts) ∙ rw (length_parts vs ds t, length_parts_of_all vs ds ts) refl
