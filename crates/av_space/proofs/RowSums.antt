-- A worked array with a reduction: Y[i] is the sum of A[i,j] over j in 0..2, for i in 0..1. As chains: Y reads the last point of its
-- row of Y#1, which adds A[i,j] to its own word at j - 1. The schedule of Y is i + 3, that of Y#1 is j.
use Rattle.std.proofs.Common.{◌≡◌, ℕ, zero, suc, ◌+◌, ℤ, pos, negsuc, ◌+ℤ◌, ◌≤ℤ◌, IsTrue, ◌⊎◌, inl, inr, Some, None, List, [], ◌∷◌, ◌++◌, length, refl, sym, ap, subst, ◌∙◌, arith}
use Rattle.std.specs.Prelude.{codes, slice_get, Contains, AllPairs}
use Rattle.std.proofs.lemmas.Int.{ints}
use Rattle.std.proofs.lemmas.List.Elements.{All-nil, All-cons}
use Rattle.std.proofs.lemmas.List.Kept.{AllPairs-cons}
use Rattle.av_affine.specs.declared.form.Form.{Form}
use Rattle.av_poly.specs.Points.{Set, Has}
use Rattle.av_tree.specs.declared.sign.Sign.TheVariants as sign
use Rattle.av_tree.specs.Points.{Point}
use Rattle.av_flat.specs.declared.flat.Kind.TheVariants as kind
use Rattle.av_flat.specs.declared.tree.Choice.{Choice}
use Rattle.av_flat.specs.Trees.{Tree, Piece, Variable, FlatSystem, reference, binary, pick}
use Rattle.av_flat.specs.Points.{has}
use Rattle.av_flat.specs.Nodes.{nodes, node_place}
use Rattle.av_flat.specs.Schedules.{cycle}
use Rattle.av_flat.specs.Values.{picked}
use Rattle.av_flat.proofs.Sets.{has_is}
use Rattle.av_space.specs.declared.cells.Cell.{Cell}
use Rattle.av_space.specs.declared.cells.Link.{Link}
use Rattle.av_space.specs.Coordinates.{Placing, along}
use Rattle.av_space.specs.Occupancy.{Occupies, IsUsed, IsCellBefore, AreCells, Computes}
use Rattle.av_space.specs.Taps.{Tap, taps, IsTapped, IsTapRead, each}
use Rattle.av_space.specs.Links.{IsStretch, IsLinkBefore, AreNeighbours, AreLinks, delay_count}
use Rattle.av_space.specs.Ports.{output_cells}
use Rattle.av_space.proofs.Diagonal.{form, i, j, zero_or_one}

-- ---- the system

abbrev to_one : List Form
to_one = i ∷ form (negsuc 0) (pos 0) (pos 1) ∷ []

abbrev line : Set
line = record { dim = 1; rows = to_one }

abbrev sums : Set
sums = record { dim = 2; rows = to_one ++ j ∷ form (pos 0) (negsuc 0) (pos 2) ∷ [] }

abbrev last_of : Choice
last_of = record {
  set = record { dim = 1; rows = to_one ++ form (pos 0) (pos 0) (pos 2) ∷ form (pos 0) (pos 0) (pos 0) ∷ [] };
  map = record { from = 1; rows = i ∷ form (pos 0) (pos 0) (pos 2) ∷ [] };
}

abbrev before_of : Choice
before_of = record {
  set = record { dim = 2; rows = to_one ++ form (pos 0) (pos 1) (negsuc 0) ∷ form (pos 0) (negsuc 0) (pos 3) ∷ [] };
  map = record { from = 2; rows = i ∷ form (pos 0) (pos 1) (negsuc 0) ∷ [] };
}

abbrev whole : Tree
whole = pick 2 (last_of ∷ []) 0

abbrev own : Tree
own = pick 2 (before_of ∷ []) 0

abbrev whole_piece : Piece
whole_piece = record { domain = line; tree = whole }

abbrev sum_piece : Piece
sum_piece = record { domain = sums; tree = binary sign.Add own (reference 0 (record { from = 2; rows = i ∷ j ∷ [] })) }

abbrev y : Variable
y = record { name = codes "Y"; kind = kind.Output; width = 8; domain = line; pieces = whole_piece ∷ [] }

abbrev s : Variable
s = record { name = codes "Y#1"; kind = kind.Partial; width = 8; domain = sums; pieces = sum_piece ∷ [] }

abbrev system : FlatSystem
system = record { width = 8; variables = record { name = codes "A"; kind = kind.Input; width = 8; domain = sums; pieces = [] } ∷ y ∷ s ∷ [] }

two_nodes : nodes system ≡ y ∷ s ∷ []
two_nodes = refl

-- ---- its places and times

abbrev of_y : Placing
of_y = record { time = record { linear = pos 1 ∷ []; offset = pos 3 }; rows = [] }

abbrev of_s : Placing
of_s = record { time = record { linear = pos 0 ∷ pos 1 ∷ []; offset = pos 0 }; rows = (pos 1 ∷ pos 0 ∷ []) ∷ [] }

abbrev placings : List Placing
placings = of_y ∷ of_s ∷ []

abbrev cell_y : Cell
cell_y = record { node = 0; at = [] }

abbrev cell_first : Cell
cell_first = record { node = 1; at = pos 0 ∷ [] }

abbrev cell_second : Cell
cell_second = record { node = 1; at = pos 1 ∷ [] }

abbrev cells : List Cell
cells = cell_y ∷ cell_first ∷ cell_second ∷ []

up_to_two : (x : ℤ) → pos 0 ≤ℤ x → x ≤ℤ pos 2 → (x ≡ pos 0) ⊎ (x ≡ pos 1) ⊎ (x ≡ pos 2)
up_to_two (pos zero) l h = inl refl
up_to_two (pos (suc zero)) l h = inr (inl refl)
up_to_two (pos (suc (suc zero))) l h = inr (inr refl)
up_to_two (pos (suc (suc (suc n)))) l h = absurd (omega (arith, ints, h))
up_to_two (negsuc n) l h = absurd (omega (arith, ints, l))

-- a point of Y, or one of Y#1: its coordinates and its cycle
data Spot : List ℤ → ℕ → ℕ → Point → Type 0 where
  on_y : {at : List ℤ} {c : ℕ} (x : ℤ) → (x ≡ pos 0) ⊎ (x ≡ pos 1) → at ≡ [] → pos c ≡ x +ℤ pos 3 → Spot at c 0 (x ∷ [])
  on_s : {at : List ℤ} {c : ℕ} (x z : ℤ) → (x ≡ pos 0) ⊎ (x ≡ pos 1) → (z ≡ pos 0) ⊎ (z ≡ pos 1) ⊎ (z ≡ pos 2) → at ≡ x ∷ [] → pos c ≡ z → Spot at c 1 (x ∷ z ∷ [])

spot_of : (cell : Cell) (c n : ℕ) (z : Point) → Occupies system placings cell c n z → Spot cell.at c n z
spot_of cell c zero z h =
    let variable : y ≡ h.computation.variable = (let e = h.computation.is in cc) in
    let here : IsTrue (has line z) = subst (λ (v : Variable). IsTrue (has v.domain z)) (sym variable) h.computation.declared in
    let p : of_y ≡ h.placing = (let e = h.is_placing in cc) in
    by_point z ((has_is line z).0 here) (subst (λ (q : Placing). cell.at ≡ along q.rows z) (sym p) h.at) (subst (λ (q : Placing). pos c ≡ cycle q.time z) (sym p) h.in_cycle)
  where
    by_point : (z : Point) → Has line z → cell.at ≡ along of_y.rows z → pos c ≡ cycle of_y.time z → Spot cell.at c 0 z
    by_point [] h at t = absurd (let l = h.dimension in omega (arith, l))
    by_point (x ∷ w ∷ z) h at t = absurd (let l = h.dimension in omega (arith, l))
    by_point (x ∷ []) h at t =
        on_y x (zero_or_one x (let a = h.holds.0 in omega (arith, ints, a)) (let a = h.holds.1.0 in omega (arith, ints, a))) at (t ∙ omega (arith, ints))
spot_of cell c (suc zero) z h =
    let variable : s ≡ h.computation.variable = (let e = h.computation.is in cc) in
    let here : IsTrue (has sums z) = subst (λ (v : Variable). IsTrue (has v.domain z)) (sym variable) h.computation.declared in
    let p : of_s ≡ h.placing = (let e = h.is_placing in cc) in
    by_point z ((has_is sums z).0 here) (subst (λ (q : Placing). cell.at ≡ along q.rows z) (sym p) h.at) (subst (λ (q : Placing). pos c ≡ cycle q.time z) (sym p) h.in_cycle)
  where
    by_point : (z : Point) → Has sums z → cell.at ≡ along of_s.rows z → pos c ≡ cycle of_s.time z → Spot cell.at c 1 z
    by_point [] h at t = absurd (let l = h.dimension in omega (arith, l))
    by_point (x ∷ []) h at t = absurd (let l = h.dimension in omega (arith, l))
    by_point (x ∷ w ∷ u ∷ z) h at t = absurd (let l = h.dimension in omega (arith, l))
    by_point (x ∷ w ∷ []) h at t =
        on_s x w (zero_or_one x (let a = h.holds.0 in omega (arith, ints, a)) (let a = h.holds.1.0 in omega (arith, ints, a)))
        (up_to_two w (let a = h.holds.1.1.0 in omega (arith, ints, a)) (let a = h.holds.1.1.1.0 in omega (arith, ints, a)))
        (at ∙ ap (λ k. k ∷ []) (omega (arith, ints))) (t ∙ omega (arith, ints))
spot_of cell c (suc (suc n)) z h = absurd (let e = h.computation.is in cc)

-- ---- cells

stands : (cell : Cell) (v : Variable) (p : Placing) (n c : ℕ) (z : Point) → slice_get (nodes system) n ≡ Some v → IsTrue (has v.domain z) → slice_get placings n ≡ Some p → cell.node ≡ n
    → cell.at ≡ along p.rows z → pos c ≡ cycle p.time z → Occupies system placings cell c n z
stands cell v p n c z is here pl node at time =
    record { computation = record { variable = v; is = is; declared = here }; placing = p; is_placing = pl; node = node; at = at; in_cycle = time }

cell_is : (cell : Cell) (n : ℕ) (at : List ℤ) → cell.node ≡ n → cell.at ≡ at → cell ≡ record { node = n; at = at }
cell_is cell n at e f = ap (λ (k : ℕ). record { node = k; at = cell.at }) e ∙ ap (λ (w : List ℤ). record { node = n; at = w }) f

every_cell : (cell : Cell) (c n : ℕ) (z : Point) → cell.node ≡ n → Spot cell.at c n z → Contains cells cell
every_cell cell c n z e (on_y x r at t) = (0, omega arith, sym (cell_is cell 0 [] e at))
every_cell cell c n z e (on_s x w (inl r) k at t) = (1, omega arith, sym (cell_is cell 1 (pos 0 ∷ []) e (at ∙ ap (λ a. a ∷ []) r)))
every_cell cell c n z e (on_s x w (inr r) k at t) = (2, omega arith, sym (cell_is cell 1 (pos 1 ∷ []) e (at ∙ ap (λ a. a ∷ []) r)))

are_cells : AreCells system placings cells
are_cells = record {
  each = All-cons (IsUsed system placings) cell_y (cell_first ∷ cell_second ∷ []) (3, 0, pos 0 ∷ [], stands cell_y y of_y 0 3 (pos 0 ∷ []) refl refl refl refl refl refl)
      (All-cons (IsUsed system placings) cell_first (cell_second ∷ []) (0, 1, pos 0 ∷ pos 0 ∷ [], stands cell_first s of_s 1 0 (pos 0 ∷ pos 0 ∷ []) refl refl refl refl refl refl)
      (All-cons (IsUsed system placings) cell_second [] (0, 1, pos 1 ∷ pos 0 ∷ [], stands cell_second s of_s 1 0 (pos 1 ∷ pos 0 ∷ []) refl refl refl refl refl refl) (All-nil (IsUsed system placings))));
  all = λ cell u. every_cell cell u.0 u.1 u.2 u.3.node (spot_of cell u.0 u.1 u.2 u.3);
  order = AllPairs-cons IsCellBefore cell_y (cell_first ∷ cell_second ∷ [])
      (All-cons (IsCellBefore cell_y) cell_first (cell_second ∷ []) (inl (omega arith)) (All-cons (IsCellBefore cell_y) cell_second [] (inl (omega arith)) (All-nil (IsCellBefore cell_y))))
      (AllPairs-cons IsCellBefore cell_first (cell_second ∷ []) (All-cons (IsCellBefore cell_first) cell_second [] (inr (refl, inl (omega (arith, ints)))) (All-nil (IsCellBefore cell_first)))
      (λ a b x l m. absurd (omega (arith, l, m))));
}

outputs_are : output_cells system cells ≡ 0 ∷ []
outputs_are = refl

-- ---- where a point stands, by its cell's number

record OnY (p c : ℕ) (x : ℤ) : Type 0 where
  cell : p ≡ 0
  turn : pos c ≡ x +ℤ pos 3
  row : (x ≡ pos 0) ⊎ (x ≡ pos 1)

record OnS (p c : ℕ) (x w : ℤ) : Type 0 where
  cell : ((p ≡ 1) × (x ≡ pos 0)) ⊎ ((p ≡ 2) × (x ≡ pos 1))
  turn : pos c ≡ w
  column : (w ≡ pos 0) ⊎ (w ≡ pos 1) ⊎ (w ≡ pos 2)

number_of_y : (p : ℕ) (cell : Cell) → slice_get cells p ≡ Some cell → cell.at ≡ [] → p ≡ 0
number_of_y zero cell e a = refl
number_of_y (suc zero) cell e a = let f : cell_first ≡ cell = cc in let g : pos 0 ∷ [] ≡ [] = ap (λ (k : Cell). k.at) f ∙ a in absurd cc
number_of_y (suc (suc zero)) cell e a = let f : cell_second ≡ cell = cc in let g : pos 1 ∷ [] ≡ [] = ap (λ (k : Cell). k.at) f ∙ a in absurd cc
number_of_y (suc (suc (suc p))) cell e a = absurd cc

number_of_s : (p : ℕ) (cell : Cell) (x : ℤ) → slice_get cells p ≡ Some cell → cell.at ≡ x ∷ [] → ((p ≡ 1) × (x ≡ pos 0)) ⊎ ((p ≡ 2) × (x ≡ pos 1))
number_of_s zero cell x e a = let f : cell_y ≡ cell = cc in let g : [] ≡ x ∷ [] = ap (λ (k : Cell). k.at) f ∙ a in absurd cc
number_of_s (suc zero) cell x e a = let f : cell_first ≡ cell = cc in let g : pos 0 ∷ [] ≡ x ∷ [] = ap (λ (k : Cell). k.at) f ∙ a in inl (refl, cc)
number_of_s (suc (suc zero)) cell x e a = let f : cell_second ≡ cell = cc in let g : pos 1 ∷ [] ≡ x ∷ [] = ap (λ (k : Cell). k.at) f ∙ a in inr (refl, cc)
number_of_s (suc (suc (suc p))) cell x e a = absurd cc

-- a computation is one of Y or one of Y#1
data Computation (p c : ℕ) : ℕ → Point → Type 0 where
  of_one : (x : ℤ) → OnY p c x → Computation p c 0 (x ∷ [])
  of_two : (x w : ℤ) → OnS p c x w → Computation p c 1 (x ∷ w ∷ [])

computation_of : (p c n : ℕ) (z : Point) → Computes system placings cells p c n z → Computation p c n z
computation_of p c n z h = by_spot h.cell n z h.is_cell (spot_of h.cell c n z h.stands)
  where
    by_spot : (cell : Cell) (n : ℕ) (z : Point) → slice_get cells p ≡ Some cell → Spot cell.at c n z → Computation p c n z
    by_spot cell n z e (on_y x r at t) = of_one x (record { cell = number_of_y p cell e at; turn = t; row = r })
    by_spot cell n z e (on_s x w r k at t) = of_two x w (record { cell = number_of_s p cell x e at; turn = t; column = k })

-- ---- what is read

abbrev tap_of : Tree → Tap
tap_of tree = record { place = record { piece = 0; site = 0; tree = tree }; way = each }

taps_of_y : taps system [] (node_place system 0) y ≡ tap_of whole ∷ []
taps_of_y = refl

taps_of_s : taps system [] (node_place system 1) s ≡ tap_of own ∷ []
taps_of_s = refl

first_of : (tree : Tree) (k : ℕ) (tap : Tap) → slice_get (tap_of tree ∷ []) k ≡ Some tap → (k ≡ 0) × (tap_of tree ≡ tap)
first_of tree zero tap e = (refl, cc)
first_of tree (suc k) tap e = absurd cc

last_read : (x : ℤ) → (x ≡ pos 0) ⊎ (x ≡ pos 1) → picked (last_of ∷ []) (x ∷ []) ≡ Some (x ∷ pos 2 ∷ [])
last_read x (inl e) = subst (λ (a : ℤ). picked (last_of ∷ []) (a ∷ []) ≡ Some (a ∷ pos 2 ∷ [])) (sym e) refl
last_read x (inr e) = subst (λ (a : ℤ). picked (last_of ∷ []) (a ∷ []) ≡ Some (a ∷ pos 2 ∷ [])) (sym e) refl

none_before : (x : ℤ) → (x ≡ pos 0) ⊎ (x ≡ pos 1) → picked (before_of ∷ []) (x ∷ pos 0 ∷ []) ≡ None
none_before x (inl e) = subst (λ (a : ℤ). picked (before_of ∷ []) (a ∷ pos 0 ∷ []) ≡ None) (sym e) refl
none_before x (inr e) = subst (λ (a : ℤ). picked (before_of ∷ []) (a ∷ pos 0 ∷ []) ≡ None) (sym e) refl

one_before : (x : ℤ) → (x ≡ pos 0) ⊎ (x ≡ pos 1) → picked (before_of ∷ []) (x ∷ pos 1 ∷ []) ≡ Some (x ∷ pos 0 ∷ [])
one_before x (inl e) = subst (λ (a : ℤ). picked (before_of ∷ []) (a ∷ pos 1 ∷ []) ≡ Some (a ∷ pos 0 ∷ [])) (sym e) refl
one_before x (inr e) = subst (λ (a : ℤ). picked (before_of ∷ []) (a ∷ pos 1 ∷ []) ≡ Some (a ∷ pos 0 ∷ [])) (sym e) refl

two_before : (x : ℤ) → (x ≡ pos 0) ⊎ (x ≡ pos 1) → picked (before_of ∷ []) (x ∷ pos 2 ∷ []) ≡ Some (x ∷ pos 1 ∷ [])
two_before x (inl e) = subst (λ (a : ℤ). picked (before_of ∷ []) (a ∷ pos 2 ∷ []) ≡ Some (a ∷ pos 1 ∷ [])) (sym e) refl
two_before x (inr e) = subst (λ (a : ℤ). picked (before_of ∷ []) (a ∷ pos 2 ∷ []) ≡ Some (a ∷ pos 1 ∷ [])) (sym e) refl

-- consumer, tap site, cycle, producer and delay of every read
data Only : ℕ → ℕ → ℕ → ℕ → ℕ → Type 0 where
  first_sum : Only 0 0 3 1 1
  second_sum : Only 0 0 4 2 2
  first_row : (c : ℕ) → (c ≡ 1) ⊎ (c ≡ 2) → Only 1 0 c 1 1
  second_row : (c : ℕ) → (c ≡ 1) ⊎ (c ≡ 2) → Only 2 0 c 2 1

moved : (p k c q d a b e f g : ℕ) → p ≡ a → k ≡ b → c ≡ e → q ≡ f → d ≡ g → Only a b e f g → Only p k c q d
moved p k c q d a b e f g h i j l m o =
    subst (λ (n : ℕ). Only n k c q d) (sym h) (subst (λ (n : ℕ). Only a n c q d) (sym i) (subst (λ (n : ℕ). Only a b n q d) (sym j)
    (subst (λ (n : ℕ). Only a b e n d) (sym l) (subst (λ (n : ℕ). Only a b e f n) (sym m) o))))

-- the point that Y#1 is read at, where it is one of these
there : (q e m : ℕ) (r : Point) (x w : ℤ) → Computation q e m r → m ≡ 1 → r ≡ x ∷ w ∷ [] → OnS q e x w
there q e m r x w (of_one u o) a b = absurd (let n : length (u ∷ []) ≡ length (x ∷ w ∷ []) = ap (λ (z : Point). length z) b in omega (arith, n))
there q e m r x w (of_two u v o) a b =
    let f : u ≡ x = cc in
    let g : v ≡ w = cc in
    subst (λ (k : ℤ). OnS q e k w) f (subst (λ (k : ℤ). OnS q e u k) g o)

of_whole : (p k c q d e : ℕ) (x : ℤ) → k ≡ 0 → OnY p c x → OnS q e x (pos 2) → e + d ≡ c → Only p k c q d
of_whole p k c q d e x z o h l = elim o.row [
  | inl r ↦ moved p k c q d 0 0 3 1 1 o.cell z (let t = o.turn in omega (arith, ints, t, r)) (elim h.cell [ inl a ↦ a.0 | inr a ↦ absurd (let b = a.1 in omega (arith, ints, b, r)) ])
      (let t = o.turn in let u = h.turn in omega (arith, ints, t, u, r, l)) first_sum
  | inr r ↦ moved p k c q d 0 0 4 2 2 o.cell z (let t = o.turn in omega (arith, ints, t, r)) (elim h.cell [ inl a ↦ absurd (let b = a.1 in omega (arith, ints, b, r)) | inr a ↦ a.0 ])
      (let t = o.turn in let u = h.turn in omega (arith, ints, t, u, r, l)) second_sum
]

of_own : (p k c q d e : ℕ) (x w u : ℤ) → k ≡ 0 → OnS p c x w → OnS q e x u → w ≡ u +ℤ pos 1 → (w ≡ pos 1) ⊎ (w ≡ pos 2) → e + d ≡ c → Only p k c q d
of_own p k c q d e x w u z o h step column l =
    let turn : (c ≡ 1) ⊎ (c ≡ 2) = elim column [ inl a ↦ inl (let t = o.turn in omega (arith, ints, t, a)) | inr a ↦ inr (let t = o.turn in omega (arith, ints, t, a)) ] in
    let delay : d ≡ 1 = (let t = o.turn in let v = h.turn in omega (arith, ints, t, v, step, l)) in
    elim o.cell [
      | inl r ↦ moved p k c q d 1 0 c 1 1 r.0 z refl (elim h.cell [ inl a ↦ a.0 | inr a ↦ absurd (let b = a.1 in let f = r.1 in omega (arith, ints, b, f)) ]) delay (first_row c turn)
      | inr r ↦ moved p k c q d 2 0 c 2 1 r.0 z refl (elim h.cell [ inl a ↦ absurd (let b = a.1 in let f = r.1 in omega (arith, ints, b, f)) | inr a ↦ a.0 ]) delay (second_row c turn)
    ]

row_of : (p c : ℕ) (x w : ℤ) → OnS p c x w → (x ≡ pos 0) ⊎ (x ≡ pos 1)
row_of p c x w o = elim o.cell [ inl a ↦ inl a.1 | inr a ↦ inr a.1 ]

own_reads : (p k c q d e : ℕ) (x w : ℤ) (m : ℕ) (r : Point) → k ≡ 0 → OnS p c x w → picked (before_of ∷ []) (x ∷ w ∷ []) ≡ Some r → m ≡ 1 → Computation q e m r → e + d ≡ c → Only p k c q d
own_reads p k c q d e x w m r z o reads node h l = elim o.column [
  | inl a ↦ absurd (let b = none_before x (row_of p c x w o) in let f = sym (ap (λ (v : ℤ). picked (before_of ∷ []) (x ∷ v ∷ [])) a ∙ b) ∙ reads in cc)
  | inr a ↦ elim a [
    | inl b ↦ let f : Some (x ∷ pos 0 ∷ []) ≡ Some r = sym (ap (λ (v : ℤ). picked (before_of ∷ []) (x ∷ v ∷ [])) b ∙ one_before x (row_of p c x w o)) ∙ reads in
        of_own p k c q d e x w (pos 0) z o (there q e m r x (pos 0) h node cc) (omega (arith, ints, b)) (inl b) l
    | inr b ↦ let f : Some (x ∷ pos 1 ∷ []) ≡ Some r = sym (ap (λ (v : ℤ). picked (before_of ∷ []) (x ∷ v ∷ [])) b ∙ two_before x (row_of p c x w o)) ∙ reads in
        of_own p k c q d e x w (pos 1) z o (there q e m r x (pos 1) h node cc) (omega (arith, ints, b)) (inr b) l
  ]
]

only : (p k c q d : ℕ) → IsTapped system [] placings cells p k c q d → Only p k c q d
only p k c q d t = by_node t.node t.point (computation_of p c t.node t.point t.computes) t.variable t.is_variable t.tap t.is_tap t.piece t.reads
  where
    number : (place k : ℕ) → place ≡ 2 → k ≡ Rattle.av_flat.specs.Nodes.number_at system place → k ≡ 1
    number place k e f = f ∙ ap (λ (n : ℕ). Rattle.av_flat.specs.Nodes.number_at system n) e

    by_node : (n : ℕ) (z : Point) → Computation p c n z → (v : Variable) → slice_get (nodes system) n ≡ Some v → (tap : Tap) → slice_get (taps system [] (node_place system n) v) k ≡ Some tap
        → (g : Piece) → IsTapRead system n tap.place.tree tap.way g z t.producer t.read → Only p k c q d
    by_node n z (of_one x o) v is tap at g read =
        let here : y ≡ v = cc in
        let first = first_of whole k tap (subst (λ (u : Variable). slice_get (taps system [] (node_place system 0) u) k ≡ Some tap) (sym here) at) in
        let reads = subst (λ (a : Tap). IsTapRead system 0 a.place.tree a.way g (x ∷ []) t.producer t.read) (sym first.1) read in
        let node : t.producer ≡ 1 = number reads.0 t.producer reads.1.0 reads.2 in
        let f : Some (x ∷ pos 2 ∷ []) ≡ Some t.read = sym (last_read x o.row) ∙ reads.1.1 in
        of_whole p k c q d t.earlier x first.0 o (there q t.earlier t.producer t.read x (pos 2) (computation_of q t.earlier t.producer t.read t.computed) node cc) t.later
    by_node n z (of_two x w o) v is tap at g read =
        let here : s ≡ v = cc in
        let first = first_of own k tap (subst (λ (u : Variable). slice_get (taps system [] (node_place system 1) u) k ≡ Some tap) (sym here) at) in
        let reads = subst (λ (a : Tap). IsTapRead system 1 a.place.tree a.way g (x ∷ w ∷ []) t.producer t.read) (sym first.1) read in
        let node : t.producer ≡ 1 = number reads.0 t.producer reads.1.0 reads.2 in
        own_reads p k c q d t.earlier x w t.producer t.read first.0 o reads.1.1 node (computation_of q t.earlier t.producer t.read t.computed) t.later

-- ---- links

abbrev link_of : ℕ → ℕ → ℕ → ℕ → ℕ → Link
link_of consumer producer delay first last = record { consumer = consumer; producer = producer; site = 0; delay = delay; first = first; last = last }

abbrev links : List Link
links = link_of 0 1 1 3 3 ∷ link_of 0 2 2 4 4 ∷ link_of 1 1 1 1 2 ∷ link_of 2 2 1 1 2 ∷ []

computes : (p c n : ℕ) (z : Point) (cell : Cell) → slice_get cells p ≡ Some cell → Occupies system placings cell c n z → Computes system placings cells p c n z
computes p c n z cell e h = record { cell = cell; is_cell = e; stands = h }

y_tapped : (q c d e : ℕ) (x : ℤ) → IsTrue (has line (x ∷ [])) → Computes system placings cells 0 c 0 (x ∷ []) → picked (last_of ∷ []) (x ∷ []) ≡ Some (x ∷ pos 2 ∷ []) → e + d ≡ c
    → Computes system placings cells q e 1 (x ∷ pos 2 ∷ []) → IsTapped system [] placings cells 0 0 c q d
y_tapped q c d e x here h reads l there = record {
  node = 0;
  point = x ∷ [];
  computes = h;
  variable = y;
  is_variable = refl;
  tap = tap_of whole;
  is_tap = refl;
  piece = whole_piece;
  is_piece = refl;
  within = here;
  producer = 1;
  read = x ∷ pos 2 ∷ [];
  reads = (2, (refl, reads), refl);
  earlier = e;
  later = l;
  computed = there;
}

s_tapped : (p q c d e : ℕ) (x w u : ℤ) → IsTrue (has sums (x ∷ w ∷ [])) → Computes system placings cells p c 1 (x ∷ w ∷ []) → picked (before_of ∷ []) (x ∷ w ∷ []) ≡ Some (x ∷ u ∷ []) → e + d ≡ c
    → Computes system placings cells q e 1 (x ∷ u ∷ []) → IsTapped system [] placings cells p 0 c q d
s_tapped p q c d e x w u here h reads l there = record {
  node = 1;
  point = x ∷ w ∷ [];
  computes = h;
  variable = s;
  is_variable = refl;
  tap = tap_of own;
  is_tap = refl;
  piece = sum_piece;
  is_piece = refl;
  within = here;
  producer = 1;
  read = x ∷ u ∷ [];
  reads = (2, (refl, reads), refl);
  earlier = e;
  later = l;
  computed = there;
}

y_at : (c : ℕ) (x : ℤ) → IsTrue (has line (x ∷ [])) → pos c ≡ cycle of_y.time (x ∷ []) → Computes system placings cells 0 c 0 (x ∷ [])
y_at c x here t = computes 0 c 0 (x ∷ []) cell_y refl (stands cell_y y of_y 0 c (x ∷ []) refl here refl refl refl t)

first_at : (c : ℕ) (w : ℤ) → IsTrue (has sums (pos 0 ∷ w ∷ [])) → cell_first.at ≡ along of_s.rows (pos 0 ∷ w ∷ []) → pos c ≡ cycle of_s.time (pos 0 ∷ w ∷ []) → Computes system placings cells 1 c 1 (pos 0 ∷ w ∷ [])
first_at c w here at t = computes 1 c 1 (pos 0 ∷ w ∷ []) cell_first refl (stands cell_first s of_s 1 c (pos 0 ∷ w ∷ []) refl here refl refl at t)

second_at : (c : ℕ) (w : ℤ) → IsTrue (has sums (pos 1 ∷ w ∷ [])) → cell_second.at ≡ along of_s.rows (pos 1 ∷ w ∷ []) → pos c ≡ cycle of_s.time (pos 1 ∷ w ∷ []) → Computes system placings cells 2 c 1 (pos 1 ∷ w ∷ [])
second_at c w here at t = computes 2 c 1 (pos 1 ∷ w ∷ []) cell_second refl (stands cell_second s of_s 1 c (pos 1 ∷ w ∷ []) refl here refl refl at t)

between_sums : {c q d : ℕ} → Only 0 0 c q d → ((c ≡ 3) × (q ≡ 1) × (d ≡ 1)) ⊎ ((c ≡ 4) × (q ≡ 2) × (d ≡ 2))
between_sums first_sum = inl (refl, refl, refl)
between_sums second_sum = inr (refl, refl, refl)

between_first : {c q d : ℕ} → Only 1 0 c q d → (q ≡ 1) × (d ≡ 1)
between_first (first_row c e) = (refl, refl)

between_second : {c q d : ℕ} → Only 2 0 c q d → (q ≡ 2) × (d ≡ 1)
between_second (second_row c e) = (refl, refl)

in_link : (p k c q d : ℕ) → Only p k c q d → (l : Link) × Contains links l × Rattle.av_space.specs.Links.IsInLink p k c l
in_link p k c q d first_sum = (link_of 0 1 1 3 3, (0, omega arith, refl), (refl, refl, omega arith, omega arith))
in_link p k c q d second_sum = (link_of 0 2 2 4 4, (1, omega arith, refl), (refl, refl, omega arith, omega arith))
in_link p k c q d (first_row n (inl e)) = (link_of 1 1 1 1 2, (2, omega arith, refl), (refl, refl, omega (arith, e), omega (arith, e)))
in_link p k c q d (first_row n (inr e)) = (link_of 1 1 1 1 2, (2, omega arith, refl), (refl, refl, omega (arith, e), omega (arith, e)))
in_link p k c q d (second_row n (inl e)) = (link_of 2 2 1 1 2, (3, omega arith, refl), (refl, refl, omega (arith, e), omega (arith, e)))
in_link p k c q d (second_row n (inr e)) = (link_of 2 2 1 1 2, (3, omega arith, refl), (refl, refl, omega (arith, e), omega (arith, e)))

abbrev Stretch : Link → Type 0
Stretch l = IsStretch system [] placings cells l

first_stretch : Stretch (link_of 0 1 1 3 3)
first_stretch = record {
  ordered = omega arith;
  begins = y_tapped 1 3 1 2 (pos 0) refl (y_at 3 (pos 0) refl refl) refl refl (first_at 2 (pos 2) refl refl refl);
  ends = y_tapped 1 3 1 2 (pos 0) refl (y_at 3 (pos 0) refl refl) refl refl (first_at 2 (pos 2) refl refl refl);
  between = λ c q d low high t. elim (between_sums (only 0 0 c q d t)) [ inl a ↦ (a.1, a.2) | inr a ↦ absurd (let e = a.0 in omega (arith, e, high)) ];
}

second_stretch : Stretch (link_of 0 2 2 4 4)
second_stretch = record {
  ordered = omega arith;
  begins = y_tapped 2 4 2 2 (pos 1) refl (y_at 4 (pos 1) refl refl) refl refl (second_at 2 (pos 2) refl refl refl);
  ends = y_tapped 2 4 2 2 (pos 1) refl (y_at 4 (pos 1) refl refl) refl refl (second_at 2 (pos 2) refl refl refl);
  between = λ c q d low high t. elim (between_sums (only 0 0 c q d t)) [ inl a ↦ absurd (let e = a.0 in omega (arith, e, low)) | inr a ↦ (a.1, a.2) ];
}

third_stretch : Stretch (link_of 1 1 1 1 2)
third_stretch = record {
  ordered = omega arith;
  begins = s_tapped 1 1 1 1 0 (pos 0) (pos 1) (pos 0) refl (first_at 1 (pos 1) refl refl refl) refl refl (first_at 0 (pos 0) refl refl refl);
  ends = s_tapped 1 1 2 1 1 (pos 0) (pos 2) (pos 1) refl (first_at 2 (pos 2) refl refl refl) refl refl (first_at 1 (pos 1) refl refl refl);
  between = λ c q d low high t. between_first (only 1 0 c q d t);
}

fourth_stretch : Stretch (link_of 2 2 1 1 2)
fourth_stretch = record {
  ordered = omega arith;
  begins = s_tapped 2 2 1 1 0 (pos 1) (pos 1) (pos 0) refl (second_at 1 (pos 1) refl refl refl) refl refl (second_at 0 (pos 0) refl refl refl);
  ends = s_tapped 2 2 2 1 1 (pos 1) (pos 2) (pos 1) refl (second_at 2 (pos 2) refl refl refl) refl refl (second_at 1 (pos 1) refl refl refl);
  between = λ c q d low high t. between_second (only 2 0 c q d t);
}

abbrev Joins : Link → Link → Type 0
Joins a b = AreNeighbours system [] placings cells a b → (a.producer ≡ b.producer) × (a.delay ≡ b.delay) → ⊥

pairs : (R : Link → Link → Type 0) → R (link_of 0 1 1 3 3) (link_of 0 2 2 4 4) → R (link_of 0 1 1 3 3) (link_of 1 1 1 1 2) → R (link_of 0 1 1 3 3) (link_of 2 2 1 1 2) → R (link_of 0 2 2 4 4) (link_of 1 1 1 1 2)
    → R (link_of 0 2 2 4 4) (link_of 2 2 1 1 2) → R (link_of 1 1 1 1 2) (link_of 2 2 1 1 2) → AllPairs R links
pairs R a b c d e f =
    AllPairs-cons R (link_of 0 1 1 3 3) (link_of 0 2 2 4 4 ∷ link_of 1 1 1 1 2 ∷ link_of 2 2 1 1 2 ∷ [])
    (All-cons (R (link_of 0 1 1 3 3)) (link_of 0 2 2 4 4) (link_of 1 1 1 1 2 ∷ link_of 2 2 1 1 2 ∷ []) a
    (All-cons (R (link_of 0 1 1 3 3)) (link_of 1 1 1 1 2) (link_of 2 2 1 1 2 ∷ []) b (All-cons (R (link_of 0 1 1 3 3)) (link_of 2 2 1 1 2) [] c (All-nil (R (link_of 0 1 1 3 3))))))
    (AllPairs-cons R (link_of 0 2 2 4 4) (link_of 1 1 1 1 2 ∷ link_of 2 2 1 1 2 ∷ [])
    (All-cons (R (link_of 0 2 2 4 4)) (link_of 1 1 1 1 2) (link_of 2 2 1 1 2 ∷ []) d (All-cons (R (link_of 0 2 2 4 4)) (link_of 2 2 1 1 2) [] e (All-nil (R (link_of 0 2 2 4 4)))))
    (AllPairs-cons R (link_of 1 1 1 1 2) (link_of 2 2 1 1 2 ∷ []) (All-cons (R (link_of 1 1 1 1 2)) (link_of 2 2 1 1 2) [] f (All-nil (R (link_of 1 1 1 1 2))))
    (λ i j x l m. absurd (omega (arith, l, m)))))

are_links : AreLinks system [] placings cells links
are_links = record {
  each = All-cons Stretch (link_of 0 1 1 3 3) (link_of 0 2 2 4 4 ∷ link_of 1 1 1 1 2 ∷ link_of 2 2 1 1 2 ∷ []) first_stretch
      (All-cons Stretch (link_of 0 2 2 4 4) (link_of 1 1 1 1 2 ∷ link_of 2 2 1 1 2 ∷ []) second_stretch
      (All-cons Stretch (link_of 1 1 1 1 2) (link_of 2 2 1 1 2 ∷ []) third_stretch (All-cons Stretch (link_of 2 2 1 1 2) [] fourth_stretch (All-nil Stretch))));
  all = λ p k c q d t. in_link p k c q d (only p k c q d t);
  maximal = pairs Joins
      (λ n e. let a : 1 ≡ 2 = e.0 in absurd (omega (arith, a)))
      (λ n e. let a : 0 ≡ 1 = n.0 in absurd (omega (arith, a)))
      (λ n e. let a : 0 ≡ 2 = n.0 in absurd (omega (arith, a)))
      (λ n e. let a : 0 ≡ 1 = n.0 in absurd (omega (arith, a)))
      (λ n e. let a : 0 ≡ 2 = n.0 in absurd (omega (arith, a)))
      (λ n e. let a : 1 ≡ 2 = n.0 in absurd (omega (arith, a)));
  order = pairs IsLinkBefore (inr (inr (refl, refl, omega arith))) (inl (omega arith)) (inl (omega arith)) (inl (omega arith)) (inl (omega arith)) (inl (omega arith));
}

three_registers : delay_count system [] cells links ≡ 3
three_registers = refl
