-- What a layout knows of the computations on a cell.
use Rattle.std.proofs.Common.{◌≡◌, ℕ, ◌<◌, IsTrue, Some, List, length, get_or, sym, ap, subst, ◌∙◌, arith}
use Rattle.std.specs.Prelude.{slice_get, Contains, All, Any}
use Rattle.std.proofs.lemmas.Option.{slice_get_within}
use Rattle.std.proofs.lemmas.List.Elements.{All-contains, Contains-get_or}
use Rattle.av_tree.specs.Points.{Point}
use Rattle.av_flat.specs.declared.timed.Timed.{Timed}
use Rattle.av_flat.specs.Trees.{Piece, Variable, FlatSystem, view_system}
use Rattle.av_flat.specs.Points.{has}
use Rattle.av_flat.specs.Chained.{IsChainedVariable, IsChainedPiece}
use Rattle.av_flat.specs.Signatures.{signatures}
use Rattle.av_flat.specs.Nodes.{is_node, nodes}
use Rattle.av_flat.specs.Legal.{IsLegal}
use Rattle.av_flat.proofs.Sets.{has_is}
use Rattle.av_depend.specs.SetPoints.{IsPointOf}
use Rattle.av_flat.proofs.Bounded.{small_point}
use Rattle.av_space.specs.declared.cells.Cell.{Cell}
use Rattle.av_space.specs.declared.layout.Slot.{Slot}
use Rattle.av_space.specs.declared.layout.Layout.{Layout}
use Rattle.av_space.specs.Coordinates.{Placing}
use Rattle.av_space.specs.Occupancy.{Computes, AreCells, IsUsed}
use Rattle.av_space.specs.Quantities.{IsUse}
use Rattle.av_space.specs.Layouts.{IsSlot, AreSlots, IsLayout}
use Rattle.av_space.proofs.ByPlace.{place_of}
use Rattle.av_base.proofs.Lists.{all_at, some_is}

-- ---- cells

pub record IsCellOf (s : FlatSystem) (placings : List Placing) (cells : List Cell) (p : ℕ) (v : Variable) (slots : List Slot) : Type 0 where
  pub cell : Cell
  pub is_cell : slice_get cells p ≡ Some cell
  pub is_variable : slice_get (nodes s) cell.node ≡ Some v
  pub are_slots : AreSlots s placings cells p slots

-- the node of a used cell
pub used_node : (s : FlatSystem) (placings : List Placing) (cell : Cell) → IsUsed s placings cell → cell.node < length (nodes s)
used_node s placings cell u =
    let k = u.3.computation in
    let l = slice_get_within (nodes s) u.1 k.variable k.is in
    let e = u.3.node in omega (arith, l, e)

pub node_within : (s : FlatSystem) (placings : List Placing) (cells : List Cell) (p : ℕ) (cell : Cell) → AreCells s placings cells → slice_get cells p ≡ Some cell → cell.node < length (nodes s)
node_within s placings cells p cell a e = used_node s placings cell (all_at (IsUsed s placings) cells p cell a.each e)

-- what computes on a cell of a node is a point of the node
pub of_node : (s : FlatSystem) (placings : List Placing) (cells : List Cell) (p c n : ℕ) (z : Point) (cell : Cell) (v : Variable)
    → Computes s placings cells p c n z → slice_get cells p ≡ Some cell → slice_get (nodes s) cell.node ≡ Some v → (n ≡ cell.node) × IsTrue (has v.domain z)
of_node s placings cells p c n z cell v h is_cell is_variable =
    let same : h.cell ≡ cell = some_is h.cell cell (sym h.is_cell ∙ is_cell) in
    let node : n ≡ cell.node = sym h.stands.node ∙ ap (λ (k : Cell). k.node) same in
    let k = h.stands.computation in
    let own : k.variable ≡ v = some_is k.variable v (sym k.is ∙ ap (λ (m : ℕ). slice_get (nodes s) m) node ∙ is_variable) in
    (node, subst (λ (w : Variable). IsTrue (has w.domain z)) own k.declared)

pub chained_node : (t : Timed) (n : ℕ) (v : Variable) → IsLegal t → slice_get (nodes (view_system t.flat)) n ≡ Some v → IsChainedVariable (view_system t.flat) v
chained_node t n v legal e =
    let s = view_system t.flat in
    let i = place_of is_node s.variables n v e in all_at (IsChainedVariable s) s.variables i.0 v legal.chained.each i.1

-- points of a node as the sets of its pieces are asked for them
pub point_of_piece : (s : FlatSystem) (v : Variable) (piece : Piece) (z : Point) → IsChainedVariable s v → IsChainedPiece (signatures s) v piece → IsTrue (has v.domain z) → IsPointOf piece.domain z
point_of_piece s v piece z chained own h =
    let is = (has_is v.domain z).0 h in
    let size = is.dimension in
    let few = chained.indices in
    record { size = size ∙ sym own.dimension; few = omega (arith, size, few); entries = small_point v.domain chained.bounded z is }

-- ---- slots

pub cell_of : (t : Timed) (l : Layout) (p : ℕ) (x : Cell) (v : Variable) (slots : List Slot) → IsLayout t l → slice_get l.cells p ≡ Some x → slice_get (nodes (view_system t.flat)) x.node ≡ Some v → slice_get l.slots p ≡ Some slots
    → IsCellOf (view_system t.flat) l.placements l.cells p v slots
cell_of t l p x v slots layout is_cell is_variable is_slots = record { cell = x; is_cell = is_cell; is_variable = is_variable; are_slots = layout.are_slots p slots is_slots }

-- a slot computes a point of the cell's node
pub slot_computes : (s : FlatSystem) (placings : List Placing) (cells : List Cell) (p : ℕ) (v : Variable) (slots : List Slot) (on : IsCellOf s placings cells p v slots) (t : Slot) → Contains slots t
    → Computes s placings cells p t.cycle on.cell.node t.point × IsTrue (has v.domain t.point)
slot_computes s placings cells p v slots on t c =
    let is = All-contains (IsSlot s placings cells p) slots t on.are_slots.each c in
    let h = of_node s placings cells p t.cycle is.node t.point on.cell v is.computes on.is_cell on.is_variable in
    (subst (λ (n : ℕ). Computes s placings cells p t.cycle n t.point) h.0 is.computes, h.1)

pub slot_points : (t : Timed) (l : Layout) (p : ℕ) (v : Variable) (slots : List Slot) → IsLegal t → IsCellOf (view_system t.flat) l.placements l.cells p v slots → (k : ℕ) (piece : Piece) → slice_get v.pieces k ≡ Some piece
    → All (λ (x : Slot). IsPointOf piece.domain x.point) slots
slot_points t l p v slots legal on k piece e = λ i d w.
    let s = view_system t.flat in
    let x = get_or slots i d in
    let chained = chained_node t on.cell.node v legal on.is_variable in
    let own = all_at (IsChainedPiece (signatures s) v) v.pieces k piece chained.pieces e in
    point_of_piece s v piece x.point chained own (slot_computes s l.placements l.cells p v slots on x (Contains-get_or slots i d w)).1

-- ---- pieces on a cell

pub use_of : (s : FlatSystem) (placings : List Placing) (cells : List Cell) (p : ℕ) (v : Variable) (slots : List Slot) → IsCellOf s placings cells p v slots → (k : ℕ) (piece : Piece) → slice_get v.pieces k ≡ Some piece
    → Any (λ (t : Slot). IsTrue (has piece.domain t.point)) slots → IsUse s placings cells (record { cell = p; piece = k }) piece
use_of s placings cells p v slots on k piece e (i, t, l, is, h) = record {
  cycle = t.cycle;
  node = on.cell.node;
  point = t.point;
  computes = (slot_computes s placings cells p v slots on t (i, l, is)).0;
  variable = v;
  is_variable = on.is_variable;
  is_piece = e;
  within = h;
}

pub slot_of_use : (s : FlatSystem) (placings : List Placing) (cells : List Cell) (p : ℕ) (v : Variable) (slots : List Slot) → IsCellOf s placings cells p v slots → (k : ℕ) (piece : Piece) → IsUse s placings cells (record { cell = p; piece = k }) piece
    → (slice_get v.pieces k ≡ Some piece) × Any (λ (t : Slot). IsTrue (has piece.domain t.point)) slots
slot_of_use s placings cells p v slots on k piece u =
    let h = of_node s placings cells p u.cycle u.node u.point on.cell v u.computes on.is_cell on.is_variable in
    let same : u.variable ≡ v = some_is u.variable v (sym u.is_variable ∙ ap (λ (n : ℕ). slice_get (nodes s) n) h.0 ∙ on.is_variable) in
    let c = on.are_slots.all u.cycle u.node u.point u.computes in
    (ap (λ (w : Variable). slice_get w.pieces k) (sym same) ∙ u.is_piece, (c.0, record { cycle = u.cycle; point = u.point }, c.1, c.2, u.within))
