-- What a tap site reads on a cell is one computation, and stands on one cell in one cycle.
use Rattle.std.proofs.Common.{◌≡◌, ℕ, ◌+◌, ◌-◌, ◌<◌, ◌≤◌, inl, inr, List, length, sym, ap, ap₂, subst, ◌∙◌, arith, Option, Some, IsTrue, pos, ◌↔◌}
use Rattle.std.specs.Prelude.{slice_get, Contains, AllPairs}
use Rattle.std.proofs.lemmas.Bool.{cases_lt}
use Rattle.std.proofs.lemmas.Int.{ints}
use Rattle.std.proofs.lemmas.List.{length-map}
use Rattle.std.proofs.lemmas.List.Elements.{All-contains}
use Rattle.av_affine.specs.Numbers.{AtMost}
use Rattle.av_tree.specs.Points.{Point}
use Rattle.av_flat.specs.declared.timed.Timed.{Timed}
use Rattle.av_flat.specs.Trees.{Tree, Piece, Variable, FlatSystem, view_system, view_variable, reference, constant, binary, choice, restriction, cases, dependence, reduction, pick}
use Rattle.av_flat.specs.Points.{has}
use Rattle.av_flat.specs.Signatures.{signatures}
use Rattle.av_flat.specs.Chained.{IsChainedPiece}
use Rattle.av_flat.specs.Legal.{IsLegal}
use Rattle.av_flat.specs.Nodes.{is_node, number_at, node_place}
use Rattle.av_flat.specs.Schedules.{cycle}
use Rattle.av_space.specs.declared.cells.Cell.{Cell}
use Rattle.av_space.specs.declared.layout.Slot.{Slot}
use Rattle.av_space.specs.declared.layout.Layout.{Layout}
use Rattle.av_space.specs.declared.stretch.TapReading.{TapReading}
use Rattle.av_space.specs.Coordinates.{Placing, along}
use Rattle.av_space.specs.Occupancy.{AreCells, IsCellBefore, Computes}
use Rattle.av_space.specs.Taps.{Way, each, entries, handed, Tap, taps, IsReadBy, IsTapRead}
use Rattle.av_space.specs.Layouts.{IsLayout, IsSlot}
use Rattle.av_space.specs.inner.Readings.{IsFineTap, IsSiteOn, IsReadingAt}
use Rattle.av_space.specs.inner.Stretches.{tap_reading}
use Rattle.av_space.proofs.Elements.{at_index}
use Rattle.av_space.proofs.FineSites.{fine_tap}
use Rattle.av_flat.proofs.NodeNumbers.{passing, own_place, chained_node}
use Rattle.av_space.proofs.Nodes.{computed_small}
use Rattle.av_space.proofs.OneArray.{cells_in_turn}
use Rattle.av_space.proofs.Scheduling.{scheduled}
use Rattle.av_space.proofs.Timely.{earlier}
use Rattle.av_space.proofs.ByPlace.{pair_at}
use Rattle.av_base.proofs.Lists.{some_is}

-- ---- one cell and one cycle

one_number : (cells : List Cell) → AllPairs IsCellBefore cells → (i j : ℕ) (x : Cell) → slice_get cells i ≡ Some x → slice_get cells j ≡ Some x → i ≡ j
one_number cells order i j x a b = elim (cases_lt i j) [
  | inl l ↦ absurd (let h = pair_at IsCellBefore cells order i j x x a b l in cells_in_turn x x h h)
  | inr g ↦ elim (cases_lt j i) [
    | inl l ↦ absurd (let h = pair_at IsCellBefore cells order j i x x b a l in cells_in_turn x x h h)
    | inr k ↦ omega (arith, g, k)
  ]
]

same_cell : (a b : Cell) → a.node ≡ b.node → a.at ≡ b.at → a ≡ b
same_cell a b e f = let g : ◌≡◌ {A = Cell} (record { node = a.node; at = a.at }) (record { node = b.node; at = b.at }) = ap₂ (λ n z. record { node = n; at = z }) e f in g

pub one_place : (s : FlatSystem) (placings : List Placing) (cells : List Cell) → AreCells s placings cells → (p q b c k : ℕ) (y : Point) → Computes s placings cells p b k y → Computes s placings cells q c k y → (p ≡ q) × (b ≡ c)
one_place s placings cells are p q b c k y h g =
    let x = h.stands in
    let z = g.stands in
    let same : x.placing ≡ z.placing = some_is x.placing z.placing (sym x.is_placing ∙ z.is_placing) in
    let at : h.cell.at ≡ g.cell.at = x.at ∙ ap (λ (w : Placing). along w.rows y) same ∙ sym z.at in
    let one : h.cell ≡ g.cell = same_cell h.cell g.cell (x.node ∙ sym z.node) at in
    let when : pos b ≡ pos c = x.in_cycle ∙ ap (λ (w : Placing). cycle w.time y) same ∙ sym z.in_cycle in
    (one_number cells are.order p q g.cell (h.is_cell ∙ ap Some one) g.is_cell, omega (arith, ints, when))

-- ---- one computation

one_read_by : (t : Tree) (z : Point) (p q : ℕ) (x y : Point) → IsReadBy t z p x → IsReadBy t z q y → (p ≡ q) × (x ≡ y)
one_read_by (reference place m) z p q x y h g = (h.0 ∙ sym g.0, h.1 ∙ sym g.1)
one_read_by (pick place choices n) z p q x y h g = (h.0 ∙ sym g.0, some_is x y (sym h.1 ∙ g.1))
one_read_by (constant n) z p q x y h g = absurd h
one_read_by (binary o l r) z p q x y h g = absurd h
one_read_by (choice l c r u v) z p q x y h g = absurd h
one_read_by (restriction d u) z p q x y h g = absurd h
one_read_by (cases ts) z p q x y h g = absurd h
one_read_by (dependence m u) z p q x y h g = absurd h
one_read_by (reduction o m u set) z p q x y h g = absurd h

pub one_read : (s : FlatSystem) (n : ℕ) (t : Tree) (way : Way) (piece : Piece) (z : Point) (k l : ℕ) (x y : Point) → IsTapRead s n t way piece z k x → IsTapRead s n t way piece z l y → (k ≡ l) × (x ≡ y)
one_read s n t each piece z k l x y h g = let e = one_read_by t z h.0 g.0 x y h.1 g.1 in (h.2 ∙ ap (number_at s) e.0 ∙ sym g.2, e.1)
one_read s n t (entries w) piece z k l x y h g = let e = one_read_by t z h.1.0 g.1.0 x y h.1.1 g.1.1 in (h.1.2 ∙ ap (number_at s) e.0 ∙ sym g.1.2, e.1)
one_read s n t (handed i w) piece z k l x y h g = (h.0 ∙ sym g.0, h.1 ∙ sym g.1)

-- ---- of a legal system

module _ (t : Timed) (l : Layout) (legal : IsLegal t) (layout : IsLayout t l) where
  abbrev own : FlatSystem
  own = view_system t.flat

  -- the computation at a slot of a cell
  pub slot_computes : (p j n : ℕ) (tap : Tap) (piece : Piece) (slots : List Slot) → IsSiteOn own t.helpers l.placements l.cells p j n tap piece slots → (c : ℕ) (z : Point) → Contains slots (record { cycle = c; point = z })
      → Computes own l.placements l.cells p c n z
  slot_computes p j n tap piece slots is c z at =
      let i = All-contains (IsSlot own l.placements l.cells p) slots (record { cycle = c; point = z }) is.are_slots.each at in
      let cell : i.computes.cell ≡ is.cell = some_is i.computes.cell is.cell (sym i.computes.is_cell ∙ is.is_cell) in
      let node : i.node ≡ n = sym i.computes.stands.node ∙ ap (λ (x : Cell). x.node) cell ∙ is.node in
      subst (λ (k : ℕ). Computes own l.placements l.cells p c k z) node i.computes

  -- what is granted of the site
  pub site_fine : (p j n : ℕ) (tap : Tap) (piece : Piece) (slots : List Slot) → IsSiteOn own t.helpers l.placements l.cells p j n tap piece slots → IsFineTap piece.domain.dim (length t.flat.vars) tap
  site_fine p j n tap piece slots is =
      let f = fine_tap t legal (node_place own n) is.variable (chained_node own n is.variable legal.chained is.is_variable) j tap is.is_tap in
      let same : f.piece ≡ piece = some_is f.piece piece (sym f.is_piece ∙ is.is_piece) in
      subst (λ (k : ℕ). IsFineTap piece.domain.dim k tap) (length-map t.flat.vars view_variable) (subst (λ (q : Piece). IsFineTap q.domain.dim (length own.variables) tap) same f.fine)

  -- what it reads is computed at least one cycle before
  pub read_before : (p j n : ℕ) (tap : Tap) (piece : Piece) (slots : List Slot) → IsSiteOn own t.helpers l.placements l.cells p j n tap piece slots → (c : ℕ) (z : Point) → Contains slots (record { cycle = c; point = z })
      → IsTrue (has piece.domain z) → (k : ℕ) (y : Point) → IsTapRead own n tap.place.tree tap.way piece z k y → (q : ℕ) × (b : ℕ) × (d : ℕ) × (b + d ≡ c) × (0 < d) × Computes own l.placements l.cells q b k y
  read_before p j n tap piece slots is c z at inside k y reads =
      let r = passing is_node own.variables n is.variable is.is_variable in
      let place : node_place own n ≡ r.place = ap (node_place own) (sym r.number) ∙ own_place own r.place is.variable r.is r.passes in
      earlier own t.helpers l.placements l.cells (scheduled t l.placements l.cells legal layout.are_placings layout.are_cells)
      p c n z r.place is.variable r.is r.passes (sym r.number) (slot_computes p j n tap piece slots is c z at) piece j tap is.is_piece inside
      (subst (λ (m : ℕ). slice_get (taps own t.helpers m is.variable) j ≡ Some tap) place is.is_tap) k y reads

  -- the point of a slot has the piece's indices, and is within the limit on coordinates
  pub slot_point : (p j n : ℕ) (tap : Tap) (piece : Piece) (slots : List Slot) → IsSiteOn own t.helpers l.placements l.cells p j n tap piece slots → (c : ℕ) (z : Point) → Contains slots (record { cycle = c; point = z })
      → (length z ≡ piece.domain.dim) × AtMost 4095 z
  slot_point p j n tap piece slots is c z at =
      let comp = (slot_computes p j n tap piece slots is c z at).stands.computation in
      let small = computed_small t n z legal comp in
      let same : comp.variable ≡ is.variable = some_is comp.variable is.variable (sym comp.is ∙ is.is_variable) in
      let chained = chained_node own n is.variable legal.chained is.is_variable in
      let own_piece = at_index (IsChainedPiece (signatures own) is.variable) is.variable.pieces chained.pieces tap.place.piece piece is.is_piece in
      (small.size ∙ ap (λ (v : Variable). v.domain.dim) same ∙ sym own_piece.dimension, small.small)

  -- where the point that is read stands, is what is read
  pub only_reading : (p j n : ℕ) (tap : Tap) (piece : Piece) (slots : List Slot) → IsSiteOn own t.helpers l.placements l.cells p j n tap piece slots → (c : ℕ) (z : Point) → Contains slots (record { cycle = c; point = z })
      → IsTrue (has piece.domain z) → (k : ℕ) (y : Point) → IsTapRead own n tap.place.tree tap.way piece z k y → (cell when : ℕ) → Computes own l.placements l.cells cell when k y → (q d : ℕ)
      → IsReadingAt own l.placements l.cells n tap piece z c q d ↔ (◌≡◌ {A = Option TapReading} (Some (tap_reading c cell (c - when))) (Some (tap_reading c q d)))
  only_reading p j n tap piece slots is c z at inside k y reads cell when computed q d = (one_way, other_way)
    where
      one_way : IsReadingAt own l.placements l.cells n tap piece z c q d → ◌≡◌ {A = Option TapReading} (Some (tap_reading c cell (c - when))) (Some (tap_reading c q d))
      one_way r =
          let e = one_read own n tap.place.tree tap.way piece z r.producer k r.read y r.reads reads in
          let there : Computes own l.placements l.cells q r.earlier k y = subst (λ (x : Point). Computes own l.placements l.cells q r.earlier k x) e.1 (subst (λ (m : ℕ). Computes own l.placements l.cells q r.earlier m r.read) e.0 r.computed) in
          let f = one_place own l.placements l.cells layout.are_cells cell q when r.earlier k y computed there in
          let late : c - when ≡ d = (let g = f.1 in let h = r.later in omega (arith, g, h)) in
          ap₂ (λ a b. Some (tap_reading c a b)) f.0 late

      other_way : ◌≡◌ {A = Option TapReading} (Some (tap_reading c cell (c - when))) (Some (tap_reading c q d)) → IsReadingAt own l.placements l.cells n tap piece z c q d
      other_way e =
          let first = read_before p j n tap piece slots is c z at inside k y reads in
          let s = some_is (tap_reading c cell (c - when)) (tap_reading c q d) e in
          let f = one_place own l.placements l.cells layout.are_cells first.0 cell first.1 when k y first.5 computed in
          let late : when + d ≡ c = (let g = f.1 in let h = first.3 in let i = ap (λ (r : TapReading). r.delay) s in omega (arith, g, h, i)) in
          record { within = inside; producer = k; read = y; reads = reads; earlier = when; later = late; computed = subst (λ (m : ℕ). Computes own l.placements l.cells m when k y) (ap (λ (r : TapReading). r.producer.0) s) computed }

  -- and in no cycle after that of the reader
  pub reads_earlier : (p j n : ℕ) (tap : Tap) (piece : Piece) (slots : List Slot) → IsSiteOn own t.helpers l.placements l.cells p j n tap piece slots → (c : ℕ) (z : Point) → Contains slots (record { cycle = c; point = z })
      → IsTrue (has piece.domain z) → (k : ℕ) (y : Point) → IsTapRead own n tap.place.tree tap.way piece z k y → (cell when : ℕ) → Computes own l.placements l.cells cell when k y → when ≤ c
  reads_earlier p j n tap piece slots is c z at inside k y reads cell when computed =
      let first = read_before p j n tap piece slots is c z at inside k y reads in
      let f = one_place own l.placements l.cells layout.are_cells first.0 cell first.1 when k y first.5 computed in
      let g = f.1 in
      let h = first.3 in
      omega (arith, g, h)
