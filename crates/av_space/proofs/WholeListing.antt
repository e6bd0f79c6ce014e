-- The listing of a legal system's array is whole.
use Rattle.std.proofs.Common.{◌≡◌, ◌≢◌, ℕ, zero, suc, ◌+◌, ◌^◌, ◌<◌, ◌≤◌, Bool, true, false, ◌&&◌, if◌then◌else◌, IsTrue, ◌⊎◌, inl, inr, Some, List, [], ◌∷◌, ◌++◌, length, map, take, refl, sym, ap, subst, ◌∙◌, arith}
use Rattle.std.specs.Prelude.{slice_get, filter, decimal, All, AllPairs, nat_lt, Option}
use Rattle.std.specs.List.{range_with_len}
use Rattle.std.proofs.lemmas.Bool.{cases_lt}
use Rattle.std.proofs.lemmas.List.{length-map}
use Rattle.std.proofs.lemmas.Option.{slice_get_within}
use Rattle.std.proofs.lemmas.Fmt.{decimal_injective}
use Rattle.av_affine.specs.Maps.{image}
use Rattle.av_tree.specs.Points.{Point}
use Rattle.av_tree.specs.Trees.{Text}
use Rattle.av_flat.specs.declared.flat.Kind.{Kind}
use Rattle.av_flat.specs.declared.flat.Kind.TheVariants as kind
use Rattle.av_flat.specs.declared.timed.Time.{Time}
use Rattle.av_flat.specs.declared.timed.Timed.{Timed}
use Rattle.av_flat.specs.Trees.{Tree, Variable, FlatSystem, view_system, reference, constant, binary, choice, restriction, cases, dependence, reduction, pick}
use Rattle.av_flat.specs.Points.{has}
use Rattle.av_flat.specs.Order.{IsBefore}
use Rattle.av_flat.specs.Signatures.{Signature, signature, signatures, is_input, is_shown, is_computed, is_kind, is_declared, is_declared_at, domain_has}
use Rattle.av_flat.specs.Chained.{IsChainedPiece, IsChainedVariable}
use Rattle.av_flat.specs.Nodes.{is_node, nodes, IsComputation}
use Rattle.av_flat.specs.Schedules.{cycle}
use Rattle.av_flat.specs.Legal.{IsLegal}
use Rattle.av_flat.proofs.Solving.{declares, read_declared}
use Rattle.av_flat.proofs.Sets.{has_is}
use Rattle.av_flat.specs.Reads.{IsRead}
use Rattle.av_flat.specs.Broadcasts.{Reference, references}
use Rattle.av_net.specs.declared.design.Entry.{Entry}
use Rattle.av_space.specs.declared.cells.Cell.{Cell}
use Rattle.av_space.specs.declared.cells.Cells.{Cells}
use Rattle.av_space.specs.Coordinates.{Placing, IsPlacing, along}
use Rattle.av_space.specs.Occupancy.{Occupies, Computes}
use Rattle.av_space.specs.Ports.{is_output_cell, output_cells}
use Rattle.av_space.specs.Listings.{input_name, output_name, value_name, InLine, IsInLine, AtLine, IsAtLine, IsWireOf, output, value}
use Rattle.av_space.specs.Arrays.{IsArrayOf}
use Rattle.av_space.specs.Whole.{IsOwnWire, IsShownOnce, IsOnTime, IsPresented, IsWhole}
use Rattle.av_space.proofs.ByPlace.{from_map, pair_at, pairs_by_place, all_by_place, place_of}
use Rattle.av_space.proofs.OneCell.{one_node}
use Rattle.av_space.proofs.Placed.{one_point}
use Rattle.av_depend.proofs.Generators.{before_itself}
use Rattle.av_space.proofs.Timely.{natural}
use Rattle.av_base.proofs.Lists.{all_at, get_mapped, some_is, there_is, place_in}

-- ---- orders

-- ---- names of wires

same_number : (i j : ℕ) → i < 2 ^ 64 → j < 2 ^ 64 → decimal i ≡ decimal j → i ≡ j
same_number i j small few e = decimal_injective i j small few e

pub rest_is : (x : ℕ) (a b : List ℕ) → ◌≡◌ {A = List ℕ} (x ∷ a) (x ∷ b) → a ≡ b
rest_is x a b e = cc

pub input_once : (i j : ℕ) → i < 2 ^ 64 → j < 2 ^ 64 → input_name i ≡ input_name j → i ≡ j
input_once i j small few e = same_number i j small few (rest_is 105 (decimal i) (decimal j) e)

pub output_once : (i j : ℕ) → i < 2 ^ 64 → j < 2 ^ 64 → output_name i ≡ output_name j → i ≡ j
output_once i j small few e = same_number i j small few (rest_is 111 (decimal i) (decimal j) e)

value_once : (i j : ℕ) → i < 2 ^ 64 → j < 2 ^ 64 → value_name i ≡ value_name j → i ≡ j
value_once i j small few e = same_number i j small few (rest_is 99 (decimal i) (decimal j) e)

no_output : (i j : ℕ) → output_name i ≡ value_name j → ⊥
no_output i j e = let h = ap (λ (xs : List ℕ). slice_get xs 0) e in let f : ◌≡◌ {A = ℕ} 111 99 = some_is 111 99 h in absurd (omega (arith, f))

-- ---- filtered lists

passed : {X : Type 0} (p : X → Bool) (xs : List X) (x : X) (i : ℕ) → slice_get (filter p xs) i ≡ Some x → p x ≡ true
passed p [] x i e = absurd cc
passed p (y ∷ xs) x i e = go (p y) refl i e (λ j. passed p xs x j)
  where
    go : (b : Bool) → p y ≡ b → (i : ℕ) → slice_get (if b then y ∷ filter p xs else filter p xs) i ≡ Some x → ((j : ℕ) → slice_get (filter p xs) j ≡ Some x → p x ≡ true) → p x ≡ true
    go true b zero e more = sym (ap p (some_is y x e)) ∙ b
    go true b (suc i) e more = more i e
    go false b i e more = more i e

stays : {X : Type 0} (p : X → Bool) (xs : List X) (x : X) (i : ℕ) → slice_get xs i ≡ Some x → p x ≡ true → (j : ℕ) × (slice_get (filter p xs) j ≡ Some x)
stays p [] x i e h = absurd cc
stays p (y ∷ xs) x zero e h = let same = some_is y x e in rw (ap p same ∙ h) (0, e)
stays p (y ∷ xs) x (suc i) e h = go (p y) (stays p xs x i e h)
  where
    go : (b : Bool) → (j : ℕ) × (slice_get (filter p xs) j ≡ Some x) → (j : ℕ) × (slice_get (if b then y ∷ filter p xs else filter p xs) j ≡ Some x)
    go true r = (suc r.0, r.1)
    go false r = r

in_range : (start n i : ℕ) → i < n → slice_get (range_with_len start n) i ≡ Some (start + i)
in_range start zero i l = absurd (omega (arith, l))
in_range start (suc n) zero l = ap (λ (k : ℕ). Some k) (omega arith)
in_range start (suc n) (suc i) l = in_range (start + 1) n i (omega (arith, l)) ∙ ap (λ (k : ℕ). Some k) (omega arith)

-- ---- references

slice_split : {X : Type 0} (xs ys : List X) (i : ℕ) (x : X) → slice_get (xs ++ ys) i ≡ Some x → (slice_get xs i ≡ Some x) ⊎ ((j : ℕ) × (slice_get ys j ≡ Some x))
slice_split [] ys i x e = inr (i, e)
slice_split (y ∷ xs) ys zero x e = inl e
slice_split (y ∷ xs) ys (suc i) x e = slice_split xs ys i x e

-- a reference reads the image of the point
reads_reference : (t : Tree) (z : Point) (i : ℕ) (r : Reference) → slice_get (references t) i ≡ Some r → IsRead t z r.place (image r.map.rows z)
reads_reference (reference p m) z zero r e = let same : record { place = p; map = m } ≡ r = some_is (record { place = p; map = m }) r e in (sym (ap (λ (q : Reference). q.place) same), sym (ap (λ (q : Reference). image q.map.rows z) same))
reads_reference (reference p m) z (suc i) r e = absurd cc
reads_reference (binary s l x) z i r e = elim (slice_split (references l) (references x) i r e) [
  | inl h ↦ inl (reads_reference l z i r h)
  | inr h ↦ inr (reads_reference x z h.0 r h.1)
]
reads_reference (choice l c x y v) z i r e = elim (slice_split (references l ++ references x ++ references y) (references v) i r e) [
  | inl h ↦ elim (slice_split (references l ++ references x) (references y) i r h) [
    | inl g ↦ elim (slice_split (references l) (references x) i r g) [
      | inl f ↦ inl (reads_reference l z i r f)
      | inr f ↦ inr (inl (reads_reference x z f.0 r f.1))
    ]
    | inr g ↦ inr (inr (inl (reads_reference y z g.0 r g.1)))
  ]
  | inr h ↦ inr (inr (inr (reads_reference v z h.0 r h.1)))
]
reads_reference (constant n) z i r e = absurd cc
reads_reference (restriction d x) z i r e = absurd cc
reads_reference (cases xs) z i r e = absurd cc
reads_reference (dependence m x) z i r e = absurd cc
reads_reference (reduction o m x set) z i r e = absurd cc
reads_reference (pick place choices n) z i r e = absurd cc

declared_here : (vs : List Variable) (place : ℕ) (v : Variable) (z : Point) → slice_get vs place ≡ Some v → IsTrue (is_declared_at (map signature vs) place z) → IsTrue (has v.domain z)
declared_here vs place v z e h =
    let at : slice_get (map signature vs) place ≡ Some (signature v) = get_mapped signature vs place v e in
    subst (λ (o : Option Signature). IsTrue (domain_has o z)) at h

-- ---- the array of a legal system

module _ (t : Timed) (a : Cells) (legal : IsLegal t) (list : IsArrayOf t a) (few_inputs : length a.inputs ≤ 2 ^ 64) (few_outputs : length a.outputs ≤ 2 ^ 64) (few_cells : length a.cells ≤ 2 ^ 64) where
  abbrev own : FlatSystem
  own = view_system t.flat

  abbrev pls : List Placing
  pls = list.placings

  -- a node with its placing
  record HasPlacing (n : ℕ) (v : Variable) : Type 0 where
    placing : Placing
    is : slice_get pls n ≡ Some placing
    is_time : slice_get t.times n ≡ Some placing.time
    size : length placing.time.linear ≡ v.domain.dim
    good : IsPlacing placing

  placed : (n : ℕ) (v : Variable) → slice_get (nodes own) n ≡ Some v → HasPlacing n v
  placed n v e =
      let l = slice_get_within (nodes own) n v e in
      let many = legal.schedule.one_each in
      let times = list.are_placings.times_are in
      let as_many = sym (length-map pls (λ (p : Placing). p.time)) ∙ ap (λ (ts : List Time). length ts) times in
      let p = there_is pls n (omega (arith, l, many, as_many)) in
      let time = ap (λ (ts : List Time). slice_get ts n) (sym times) ∙ get_mapped (λ (q : Placing). q.time) pls n p.0 p.1 in
      record { placing = p.0; is = p.1; is_time = time; size = (legal.schedule.linear n v p.0.time e time).size; good = all_at IsPlacing pls n p.0 list.are_placings.each p.1 }

  variable_there : (n : ℕ) (v : Variable) → slice_get (nodes own) n ≡ Some v → (i : ℕ) × (slice_get own.variables i ≡ Some v) × (length (filter is_node (take i own.variables)) ≡ n)
  variable_there n v e = place_of is_node own.variables n v e

  chained : (n : ℕ) (v : Variable) → slice_get (nodes own) n ≡ Some v → IsChainedVariable own v
  chained n v e = let i = variable_there n v e in all_at (IsChainedVariable own) own.variables i.0 v legal.chained.each i.1

  chained_kind : (n : ℕ) (v : Variable) → slice_get (nodes own) n ≡ Some v → is_computed v.kind ≡ true
  chained_kind n v e = first (is_computed v.kind) (nat_lt 0 (length v.pieces)) (passed is_node own.variables v n e)
    where
      first : (b c : Bool) → (b && c) ≡ true → b ≡ true
      first true c h = refl
      first false c h = absurd cc

  -- nodes of one name are one
  same_node : (n k : ℕ) (v w : Variable) → slice_get (nodes own) n ≡ Some v → slice_get (nodes own) k ≡ Some w → v.name ≡ w.name → n ≡ k
  same_node n k v w e f same =
      let i = variable_there n v e in
      let j = variable_there k w f in
      elim (cases_lt i.0 j.0) [
        | inl lt ↦ absurd (pair_at (λ (x y : Variable). x.name ≢ y.name) own.variables legal.chained.names i.0 j.0 v w i.1 j.1 lt same)
        | inr le ↦ elim (cases_lt j.0 i.0) [
          | inl lt ↦ absurd (pair_at (λ (x y : Variable). x.name ≢ y.name) own.variables legal.chained.names j.0 i.0 w v j.1 i.1 lt (sym same))
          | inr ge ↦ let one : i.0 ≡ j.0 = omega (arith, le, ge) in sym i.2 ∙ ap (λ (m : ℕ). length (filter is_node (take m own.variables))) one ∙ j.2
        ]
      ]

  -- the point of a computation has an entry for each index of its node
  sized : (p c n : ℕ) (z : Point) (v : Variable) → Computes own pls a.cells p c n z → slice_get (nodes own) n ≡ Some v → length z ≡ v.domain.dim
  sized p c n z v h e =
      let k = h.stands.computation in
      let same : k.variable ≡ v = some_is k.variable v (sym k.is ∙ e) in
      has_size (subst (λ (w : Variable). IsTrue (has w.domain z)) same k.declared)
    where
      has_size : IsTrue (has v.domain z) → length z ≡ v.domain.dim
      has_size here = ((has_is v.domain z).0 here).dimension

  -- of one cell two computations in one cycle are one
  once : (p c n k : ℕ) (y z : Point) → Computes own pls a.cells p c n y → Computes own pls a.cells p c k z → (n ≡ k) × (y ≡ z)
  once p c n k y z h g =
      let node = one_node own pls a.cells p c c n k y z h g in
      (node, of_node n y z h (subst (λ (m : ℕ). Computes own pls a.cells p c m z) (sym node) g))
    where
      of_node : (m : ℕ) (y z : Point) → Computes own pls a.cells p c m y → Computes own pls a.cells p c m z → y ≡ z
      of_node m y z h g =
          let v = h.stands.computation.variable in
          let e = h.stands.computation.is in
          let pl = placed m v e in
          let hp : h.stands.placing ≡ pl.placing = some_is h.stands.placing pl.placing (sym h.stands.is_placing ∙ pl.is) in
          let gp : g.stands.placing ≡ pl.placing = some_is g.stands.placing pl.placing (sym g.stands.is_placing ∙ pl.is) in
          let cell : h.cell ≡ g.cell = some_is h.cell g.cell (sym h.is_cell ∙ g.is_cell) in
          let few = (chained m v e).indices in
          let size = pl.size in
          one_point pl.placing pl.good (omega (arith, few, size)) y z (sized p c m y v h e ∙ sym size) (sized p c m z v g e ∙ sym size)
          (ap (λ (q : Placing). along q.rows y) (sym hp) ∙ sym h.stands.at ∙ ap (λ (q : Cell). q.at) cell ∙ g.stands.at ∙ ap (λ (q : Placing). along q.rows z) gp)
          (ap (λ (q : Placing). cycle q.time y) (sym hp) ∙ sym h.stands.in_cycle ∙ g.stands.in_cycle ∙ ap (λ (q : Placing). cycle q.time z) gp)

  -- each computation stands on a cell
  stands : (n : ℕ) (v : Variable) (z : Point) → slice_get (nodes own) n ≡ Some v → IsTrue (has v.domain z) → (p : ℕ) × (c : ℕ) × Computes own pls a.cells p c n z
  stands n v z e here =
      let pl = placed n v e in
      let computation : IsComputation own n z = record { variable = v; is = e; declared = here } in
      let c = natural (cycle pl.placing.time z) (legal.schedule.starts n z pl.placing.time computation pl.is_time) in
      let cell : Cell = record { node = n; at = along pl.placing.rows z } in
      let used : Occupies own pls cell c.0 n z = record { computation = computation; placing = pl.placing; is_placing = pl.is; node = refl; at = refl; in_cycle = c.1 } in
      let p = place_in a.cells cell (list.cells.all cell (c.0, n, z, used)) in
      (p.0, c.0, record { cell = cell; is_cell = p.1; stands = used })

  -- ---- lines of inputs

  ins_apart : AllPairs (λ (line later : Entry). line.wire ≡ later.wire → line.cycle ≢ later.cycle) a.listing.ins
  ins_apart = pairs_by_place (λ (line later : Entry). line.wire ≡ later.wire → line.cycle ≢ later.cycle) a.listing.ins apart
    where
      apart : (i j : ℕ) (x y : Entry) → slice_get a.listing.ins i ≡ Some x → slice_get a.listing.ins j ≡ Some y → i < j → x.wire ≡ y.wire → x.cycle ≢ y.cycle
      apart i j x y ix jy lt wires cycles =
          let f : InLine → Entry = λ (l : InLine). l.entry in
          let b = from_map f list.ins.lines i x (sym (ap (λ (es : List Entry). slice_get es i) list.ins.entries) ∙ ix) in
          let d = from_map f list.ins.lines j y (sym (ap (λ (es : List Entry). slice_get es j) list.ins.entries) ∙ jy) in
          let k = all_at (IsInLine own t.helpers pls a.cells a.inputs) list.ins.lines i b.0 list.ins.each b.1 in
          let l = all_at (IsInLine own t.helpers pls a.cells a.inputs) list.ins.lines j d.0 list.ins.each d.1 in
          let kp = slice_get_within a.inputs b.0.port k.port k.is_port in
          let lp = slice_get_within a.inputs d.0.port l.port l.is_port in
          let wire : input_name b.0.port ≡ input_name d.0.port = sym k.wire_is ∙ ap (λ (e : Entry). e.wire) b.2 ∙ wires ∙ sym (ap (λ (e : Entry). e.wire) d.2) ∙ l.wire_is in
          let port = input_once b.0.port d.0.port (omega (arith, few_inputs, kp)) (omega (arith, few_inputs, lp)) wire in
          let cycle : b.0.entry.cycle ≡ d.0.entry.cycle = ap (λ (e : Entry). e.cycle) b.2 ∙ cycles ∙ sym (ap (λ (e : Entry). e.cycle) d.2) in
          elim (pair_at (λ (m n : InLine). (m.port < n.port) ⊎ ((m.port ≡ n.port) × (m.entry.cycle < n.entry.cycle))) list.ins.lines list.ins.order i j b.0 d.0 b.1 d.1 lt) [
            | inl p ↦ absurd (omega (arith, p, port))
            | inr p ↦ let less = p.1 in absurd (omega (arith, less, cycle))
          ]

  presented : All (IsPresented own a) a.listing.ins
  presented = all_by_place (IsPresented own a) a.listing.ins one
    where
      one : (i : ℕ) (x : Entry) → slice_get a.listing.ins i ≡ Some x → IsPresented own a x
      one i x e =
          let b = from_map (λ (l : InLine). l.entry) list.ins.lines i x (sym (ap (λ (es : List Entry). slice_get es i) list.ins.entries) ∙ e) in
          let l = all_at (IsInLine own t.helpers pls a.cells a.inputs) list.ins.lines i b.0 list.ins.each b.1 in
          let fed = l.fed in
          let v = chained fed.node fed.variable fed.is_variable in
          let q = all_at (IsChainedPiece (signatures own) fed.variable) fed.variable.pieces l.port.piece fed.piece v.pieces fed.is_piece in
          let there =
          read_declared (signatures own) fed.piece.domain fed.piece.tree l.point fed.place (image l.map.rows l.point) q.reads fed.within
          (reads_reference fed.piece.tree l.point l.port.site (record { place = fed.place; map = l.map }) fed.is_reference) in
          let here : IsTrue (has l.input.domain (image l.map.rows l.point)) = declared_here own.variables fed.place l.input (image l.map.rows l.point) fed.is_variable_read there in
          let d = declares own.variables is_input fed.place l.input (image l.map.rows l.point) fed.is_variable_read here fed.input_kind in
          let same : IsTrue (is_declared is_input (signatures own) b.0.entry.variable b.0.entry.point) =
          subst (λ (z : Point). IsTrue (is_declared is_input (signatures own) b.0.entry.variable z)) (sym l.point_is) (subst (λ (n : Text). IsTrue (is_declared is_input (signatures own) n (image l.map.rows l.point))) (sym l.variable_is) d) in
          subst (IsPresented own a) b.2 (same, (b.0.port, slice_get_within a.inputs b.0.port l.port l.is_port, l.wire_is))

  -- ---- lines of computed points

  -- a line with what stands behind it
  record HasLine (i : ℕ) (x : Entry) : Type 0 where
    line : AtLine
    at : slice_get list.ats.lines i ≡ Some line
    is_entry : line.entry ≡ x
    is : IsAtLine own pls a.cells a.outputs line

  line_of : (i : ℕ) (x : Entry) → slice_get a.listing.ats i ≡ Some x → HasLine i x
  line_of i x e =
      let b = from_map (λ (l : AtLine). l.entry) list.ats.lines i x (sym (ap (λ (es : List Entry). slice_get es i) list.ats.entries) ∙ e) in
      record { line = b.0; at = b.1; is_entry = b.2; is = all_at (IsAtLine own pls a.cells a.outputs) list.ats.lines i b.0 list.ats.each b.1 }

  abbrev Comes : AtLine → AtLine → Type 0
  Comes x y = (x.node < y.node) ⊎ ((x.node ≡ y.node) × IsBefore x.entry.point y.entry.point)

  never_later : (i j : ℕ) (x y : AtLine) → slice_get list.ats.lines i ≡ Some x → slice_get list.ats.lines j ≡ Some y → x.node ≡ y.node → x.entry.point ≡ y.entry.point → i < j → ⊥
  never_later i j x y ix jy node point lt = elim (pair_at Comes list.ats.lines list.ats.order i j x y ix jy lt) [
    | inl p ↦ omega (arith, p, node)
    | inr p ↦ before_itself y.entry.point (subst (λ (z : Point). IsBefore z y.entry.point) point p.1)
  ]

  -- the wire of a line tells its cell
  same_cell : (p q : ℕ) (w : List ℕ) → p < 2 ^ 64 → q < 2 ^ 64 → IsWireOf a.outputs p w → (v : List ℕ) → v ≡ w → IsWireOf a.outputs q v → p ≡ q
  same_cell p q w small few (output k at) v e (output j there) =
      let kl = slice_get_within a.outputs k p at in
      let jl = slice_get_within a.outputs j q there in
      let same = output_once j k (omega (arith, few_outputs, jl)) (omega (arith, few_outputs, kl)) e in
      some_is p q (sym at ∙ ap (λ (i : ℕ). slice_get a.outputs i) (sym same) ∙ there)
  same_cell p q w small few (output k at) v e (value none) = absurd (no_output k q (sym e))
  same_cell p q w small few (value none) v e (output j there) = absurd (no_output j p e)
  same_cell p q w small few (value none) v e (value other) = sym (value_once q p few small e)

  cell_small : (p c n : ℕ) (z : Point) → Computes own pls a.cells p c n z → p < 2 ^ 64
  cell_small p c n z h = let l = slice_get_within a.cells p h.cell h.is_cell in omega (arith, few_cells, l)

  one_word : AllPairs (λ (one other : Entry). one.variable ≡ other.variable → one.wire ≡ other.wire → one.cycle ≢ other.cycle) a.listing.ats
  one_word = pairs_by_place (λ (one other : Entry). one.variable ≡ other.variable → one.wire ≡ other.wire → one.cycle ≢ other.cycle) a.listing.ats apart
    where
      apart : (i j : ℕ) (x y : Entry) → slice_get a.listing.ats i ≡ Some x → slice_get a.listing.ats j ≡ Some y → i < j → x.variable ≡ y.variable → x.wire ≡ y.wire → x.cycle ≢ y.cycle
      apart i j x y ix jy lt variables wires cycles =
          let b = line_of i x ix in
          let d = line_of j y jy in
          let k = b.is in
          let l = d.is in
          let wire : d.line.entry.wire ≡ b.line.entry.wire = ap (λ (e : Entry). e.wire) d.is_entry ∙ sym wires ∙ sym (ap (λ (e : Entry). e.wire) b.is_entry) in
          let cell : k.cell ≡ l.cell =
          same_cell k.cell l.cell b.line.entry.wire (cell_small k.cell b.line.entry.cycle b.line.node b.line.entry.point k.computes) (cell_small l.cell d.line.entry.cycle d.line.node d.line.entry.point l.computes)
          k.wire_is d.line.entry.wire wire l.wire_is in
          let cycle : b.line.entry.cycle ≡ d.line.entry.cycle = ap (λ (e : Entry). e.cycle) b.is_entry ∙ cycles ∙ sym (ap (λ (e : Entry). e.cycle) d.is_entry) in
          let there : Computes own pls a.cells k.cell b.line.entry.cycle d.line.node d.line.entry.point =
          subst (λ (c : ℕ). Computes own pls a.cells k.cell c d.line.node d.line.entry.point) (sym cycle)
          (subst (λ (p : ℕ). Computes own pls a.cells p d.line.entry.cycle d.line.node d.line.entry.point) (sym cell) l.computes) in
          let one = once k.cell b.line.entry.cycle b.line.node d.line.node b.line.entry.point d.line.entry.point k.computes there in
          absurd (never_later i j b.line d.line b.at d.at one.0 one.1 lt)

  on_time : All (IsOnTime own t.times) a.listing.ats
  on_time = all_by_place (IsOnTime own t.times) a.listing.ats one
    where
      one : (i : ℕ) (x : Entry) → slice_get a.listing.ats i ≡ Some x → IsOnTime own t.times x
      one i x e =
          let b = line_of i x e in
          let l = b.is in
          let pl = placed b.line.node l.variable l.is_variable in
          let same : l.computes.stands.placing ≡ pl.placing = some_is l.computes.stands.placing pl.placing (sym l.computes.stands.is_placing ∙ pl.is) in
          subst (IsOnTime own t.times) b.is_entry (record {
            node = b.line.node;
            variable = l.variable;
            is_variable = l.is_variable;
            named = l.variable_is;
            time = pl.placing.time;
            is_time = pl.is_time;
            on_time = l.computes.stands.in_cycle ∙ ap (λ (q : Placing). cycle q.time b.line.entry.point) same;
          })

  -- whether the cell of a computation is one of an output
  output_cell_is : (n p c : ℕ) (v : Variable) (z : Point) → slice_get (nodes own) n ≡ Some v → Computes own pls a.cells p c n z → is_output_cell own a.cells p ≡ is_kind v.kind kind.Output
  output_cell_is n p c v z e h = rw (h.is_cell, h.stands.node, e) refl

  -- the wire on which a point is shown
  wire_of : (n p c : ℕ) (v : Variable) (z : Point) → slice_get (nodes own) n ≡ Some v → IsTrue (is_shown v.kind) → Computes own pls a.cells p c n z → (w : List ℕ) × IsWireOf a.outputs p w × IsOwnWire a.outputs v.kind p w
  wire_of n p c v z e shown h = go v.kind (chained_kind n v e) shown (output_cell_is n p c v z e h)
    where
      outputs : a.outputs ≡ output_cells own a.cells
      outputs = list.outputs

      go : (k : Kind) → is_computed k ≡ true → IsTrue (is_shown k) → is_output_cell own a.cells p ≡ is_kind k kind.Output → (w : List ℕ) × IsWireOf a.outputs p w × IsOwnWire a.outputs k p w
      go kind.Input computed shown test = absurd cc
      go kind.Output computed shown test =
          let l = slice_get_within a.cells p h.cell h.is_cell in
          let r = stays (is_output_cell own a.cells) (range_with_len 0 (length a.cells)) p p (in_range 0 (length a.cells) p l ∙ ap (λ (i : ℕ). Some i) (omega arith)) test in
          let there : slice_get a.outputs r.0 ≡ Some p = ap (λ (ps : List ℕ). slice_get ps r.0) outputs ∙ r.1 in
          (output_name r.0, output r.0 there, inl (refl, (r.0, there, refl)))
      go kind.Local computed shown test = (
        value_name p,
        value (λ among.
            let i = place_in a.outputs p among in
            let yes = passed (is_output_cell own a.cells) (range_with_len 0 (length a.cells)) p i.0 (ap (λ (ps : List ℕ). slice_get ps i.0) (sym outputs) ∙ i.1) in
            (let no : true ≡ false = sym yes ∙ test in absurd cc)),
        inr (refl, refl),
      )
      go kind.Partial computed shown test = absurd cc

  listed : (n : ℕ) (v : Variable) (z : Point) → slice_get (nodes own) n ≡ Some v → IsTrue (is_shown v.kind) → IsTrue (has v.domain z) → IsShownOnce own pls a n v z
  listed n v z e shown here =
      let s = stands n v z e here in
      let w = wire_of n s.0 s.1 v z e shown s.2 in
      let l : AtLine = record { node = n; entry = record { variable = v.name; point = z; wire = w.0; cycle = s.1 } } in
      let is : IsAtLine own pls a.cells a.outputs l = record { cell = s.0; computes = s.2; variable = v; is_variable = e; shown = shown; variable_is = refl; wire_is = w.1 } in
      let at = place_in list.ats.lines l (list.ats.all l is) in
      record {
        listed = record {
          number = at.0;
          line = l.entry;
          is_line = ap (λ (es : List Entry). slice_get es at.0) list.ats.entries ∙ get_mapped (λ (x : AtLine). x.entry) list.ats.lines at.0 l at.1;
          variable_is = refl;
          point_is = refl;
          only = λ k other there named point. only l at.0 at.1 refl k other there named point refl;
        };
        cell = s.0;
        computes = s.2;
        wire_is = w.2;
      }
    where
      only : (l : AtLine) (i : ℕ) → slice_get list.ats.lines i ≡ Some l → l.node ≡ n → (k : ℕ) (other : Entry) → slice_get a.listing.ats k ≡ Some other → other.variable ≡ v.name → other.point ≡ z → l.entry.point ≡ z → k ≡ i
      only l i at node k other there named point own_point =
          let b = line_of k other there in
          let name : b.is.variable.name ≡ v.name = sym b.is.variable_is ∙ ap (λ (x : Entry). x.variable) b.is_entry ∙ named in
          let same : b.line.node ≡ n = same_node b.line.node n b.is.variable v b.is.is_variable e name in
          let points : b.line.entry.point ≡ l.entry.point = ap (λ (x : Entry). x.point) b.is_entry ∙ point ∙ sym own_point in
          elim (cases_lt k i) [
            | inl lt ↦ absurd (never_later k i b.line l b.at at (same ∙ sym node) points lt)
            | inr le ↦ elim (cases_lt i k) [
              | inl lt ↦ absurd (never_later i k l b.line at b.at (node ∙ sym same) (sym points) lt)
              | inr ge ↦ omega (arith, le, ge)
            ]
          ]

pub whole_listing : (t : Timed) (a : Cells) → IsLegal t → IsArrayOf t a → length a.inputs ≤ 2 ^ 64 → length a.outputs ≤ 2 ^ 64 → length a.cells ≤ 2 ^ 64 → IsWhole t a
whole_listing t a legal list few_inputs few_outputs few_cells = record {
  list = list;
  apart = ins_apart t a legal list few_inputs few_outputs few_cells;
  each = listed t a legal list few_inputs few_outputs few_cells;
  one_word = one_word t a legal list few_inputs few_outputs few_cells;
  on_time = on_time t a legal list few_inputs few_outputs few_cells;
  presented = presented t a legal list few_inputs few_outputs few_cells;
}
