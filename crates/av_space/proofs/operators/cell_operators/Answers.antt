use Rattle.std.proofs.Common.{rules, ◌≡◌, ◌↔◌, ◌∙◌, ◌<◌, ◌≤◌, ◌+◌, ℕ, List, Some, Bool, IsTrue, false, length, map, get_or, sym, ap, subst, arith}
use Rattle.std.specs.Prelude.{slice_get, Any}
use Rattle.std.proofs.lemmas.List.{length-map}
use Rattle.std.proofs.lemmas.Option.{slice_get_within}
use Rattle.av_flat.specs.declared.flat.Piece.{Piece as PieceMade}
use Rattle.av_flat.specs.declared.flat.Var.{Var}
use Rattle.av_flat.specs.declared.timed.Timed.{Timed}
use Rattle.av_flat.specs.Nodes.{nodes}
use Rattle.av_flat.specs.Points.{has}
use Rattle.av_flat.specs.Trees.{Piece, Variable, FlatSystem, view_piece, view_variable, view_system}
use Rattle.av_space.specs.declared.cells.Cell.{Cell}
use Rattle.av_space.specs.declared.layout.Slot.{Slot}
use Rattle.av_space.specs.declared.layout.Layout.{Layout}
use Rattle.av_space.specs.Coordinates.{Placing}
use Rattle.av_space.specs.Layouts.{IsLayout}
use Rattle.av_space.specs.Quantities.{size, Use, IsUse}
use Rattle.av_space.specs.inner.Apart.{AreOfNode}
use Rattle.av_space.specs.inner.Counting.{piece_sizes, IsCountOf}
use Rattle.av_space.proofs.OffCells.{are_of_node}
use Rattle.av_space.proofs.ByPlace.{read_at}
use Rattle.av_space.proofs.TreeSizes.{made_size, size_at, own_sizes, row_within}
use Rattle.av_space.proofs.OperatorCounts.{count_none, one_more, not_more, whole_cell}
use Rattle.av_space.proofs.OnCells.{IsCellOf, node_within, cell_of, use_of, slot_of_use}
use Rattle.av_space.proofs.operators.cell_operators.Goals as goal
use Rattle.av_space.proofs.operators.cell_operators.Goals.{then-is_used, else-is_used}
use Rattle.av_base.proofs.Lists.{get_mapped, some_is}

here : (t : Timed) (l : Layout) (p : ℕ) (x : Cell) (v : Var) (slots : List Slot) (cells : List Cell) (rows : List (List Slot)) → IsLayout t l → p < length l.cells → cells ≡ l.cells → x ≡ get_or cells p x
    → slice_get (nodes (view_system t.flat)) (get_or cells p x).node ≡ Some (view_variable v) → rows ≡ l.slots → slots ≡ get_or rows p slots → IsCellOf (view_system t.flat) l.placements l.cells p (view_variable v) slots
here t l p x v slots cells rows layout lt same is var same_rows is_slots =
    let lc : p < length cells = (let e = ap (λ (xs : List Cell). length xs) same in omega (arith, e, lt)) in
    let ls : p < length rows = (let e = ap (λ (xs : List (List Slot)). length xs) same_rows in let o = layout.one_each in omega (arith, e, lt, o)) in
    cell_of t l p x (view_variable v) slots layout (read_at l.cells cells p x same lc is) (ap (λ (y : Cell). slice_get (nodes (view_system t.flat)) y.node) is ∙ var) (read_at l.slots rows p slots same_rows ls is_slots)

unused : (piece q : Piece) (v : Variable) (j : ℕ) → slice_get v.pieces j ≡ Some piece → (slots : List Slot) (b : Bool) → IsTrue b ↔ Any (λ (t : Slot). IsTrue (has piece.domain t.point)) slots → b ≡ false
    → (slice_get v.pieces j ≡ Some q) × Any (λ (t : Slot). IsTrue (has q.domain t.point)) slots → ⊥
unused piece q v j is slots b used f h =
    let same : q ≡ piece = some_is q piece (sym h.0 ∙ is) in
    let t = used.1 (subst (λ (y : Piece). Any (λ (t : Slot). IsTrue (has y.domain t.point)) slots) same h.1) in
    absurd cc

within : (u : Use) (piece : Piece) (s : FlatSystem) (placings : List Placing) (cells : List Cell) → IsUse s placings cells u piece → (p : ℕ) → u.cell ≡ p → (v : Var) (slots : List Slot) → IsCellOf s placings cells p (view_variable v) slots
    → (pieces : List PieceMade) → pieces ≡ v.pieces → (n : ℕ) → length pieces ≤ n → u.piece < n
within u piece s placings cells is p e v slots on pieces same n over =
    let h = slot_of_use s placings cells p (view_variable v) slots on u.piece piece (subst (λ (q : ℕ). IsUse s placings cells (record { cell = q; piece = u.piece }) piece) e is) in
    let l = slice_get_within (map view_piece v.pieces) u.piece piece h.0 in
    let m : length (map view_piece v.pieces) ≡ length v.pieces = length-map v.pieces view_piece in
    let k = ap (λ (xs : List PieceMade). length xs) same in
    omega (arith, l, m, k, over)

-- the number that is read is the size of the piece
size_here : (s : FlatSystem) (v : Var) (sizes : List (List ℕ)) (row own : List ℕ) (n j : ℕ) (piece : PieceMade) → sizes ≡ map piece_sizes (nodes s) → row ≡ get_or sizes n row → own ≡ row → slice_get (nodes s) n ≡ Some (view_variable v)
    → slice_get v.pieces j ≡ Some piece → get_or own j 0 ≡ made_size piece
size_here s v sizes row own n j piece same is from at there =
    let lt = row_within s sizes n (view_variable v) same at in
    ap (λ (ns : List ℕ). get_or ns j 0) (from ∙ own_sizes s sizes n row (view_variable v) same lt is at) ∙ size_at v j piece there

pub bounds-sizes-node : goal.bounds-sizes-node
bounds-sizes-node c = row_within (view_system c.args.scheduled.now.timed.flat) c.args.sizes.now (get_or c.cells.result.now c.args.cell.0 c.index-cells-cell.result).node (view_variable c.variable-var.result.now) c.requires.sizes c.variable-var.ensures

pub bounds-own-number : goal.bounds-own-number
bounds-own-number c =
    let s = view_system c.args.scheduled.now.timed.flat in
    let v = c.variable-var.result.now in
    let n = (get_or c.cells.result.now c.args.cell.0 c.index-cells-cell.result).node in
    let row = c.index-sizes-node.result in
    let lt = row_within s c.args.sizes.now n (view_variable v) c.requires.sizes c.variable-var.ensures in
    let own = ap (λ (ns : List ℕ). length ns) (c.as_slice-own.ensures ∙ own_sizes s c.args.sizes.now n row (view_variable v) c.requires.sizes lt c.index-sizes-node.is c.variable-var.ensures) in
    let many = length-map (map view_piece v.pieces) (λ (p : Piece). size p.tree) in
    let made : length (map view_piece v.pieces) ≡ length v.pieces = length-map v.pieces view_piece in
    let items = ap (λ (ps : List PieceMade). length ps) c.as_slice-piece-items.ensures in
    let lp : c.loop-number.number < length c.as_slice-piece-items.result.now = search rules in
    omega (arith, own, many, made, items, lp)

pub variable-var-requires : goal.variable-var-requires
variable-var-requires c =
    let x = c.index-cells-cell.result in
    let l : c.args.cell.0 < length c.cells.result.now = (let e = ap (λ (xs : List Cell). length xs) c.cells.ensures.is in let r = c.requires.cell in omega (arith, e, r)) in
    let at = read_at c.args.scheduled.now.layout.cells c.cells.result.now c.args.cell.0 x c.cells.ensures.is l c.index-cells-cell.is in
    let s = view_system c.args.scheduled.now.timed.flat in
    let within = node_within s c.args.scheduled.now.layout.placements c.args.scheduled.now.layout.cells c.args.cell.0 x c.cells.ensures.scheduled.layout.are_cells at in
    subst (λ (y : Cell). y.node < length (nodes s)) c.index-cells-cell.is within

pub loop-number-init : goal.loop-number-init
loop-number-init c = record {
  counted = count_none (view_system c.args.scheduled.now.timed.flat) c.args.scheduled.now.layout.placements c.args.scheduled.now.layout.cells (λ u. (u.cell ≡ c.args.cell.0) × (u.piece < 0)) (λ u piece h is. (let l = h.1 in omega (arith, l)));
  most = omega arith;
}

pub is_used-requires : goal.is_used-requires
is_used-requires c =
    let t = c.args.scheduled.now.timed in
    let l = c.args.scheduled.now.layout in
    let v = c.variable-var.result.now in
    let piece = c.piece-item.result in
    let x = c.index-cells-cell.result in
    let slots = c.index-slots-cell.result in
    let on = here t l c.args.cell.0 x v slots c.cells.result.now c.slots.result.now c.cells.ensures.scheduled.layout c.requires.cell c.cells.ensures.is c.index-cells-cell.is c.variable-var.ensures c.slots.ensures.is c.index-slots-cell.is in
    let lp : c.loop-number.number < length c.as_slice-piece-items.result.now = search rules in
    let is = get_mapped view_piece v.pieces c.loop-number.number piece (read_at v.pieces c.as_slice-piece-items.result.now c.loop-number.number piece c.as_slice-piece-items.ensures lp c.piece-item.is) in
    subst (λ (ts : List Slot). AreOfNode piece.domain ts) (sym c.as_slice-slots.ensures)
    (are_of_node t l c.args.cell.0 (view_variable v) slots c.cells.ensures.scheduled.legal c.cells.ensures.scheduled.layout.are_placings on c.loop-number.number (view_piece piece) is)

pub loop-number-preserved : goal.loop-number-preserved
loop-number-preserved c =
    let s = view_system c.args.scheduled.now.timed.flat in
    let t = c.args.scheduled.now.timed in
    let l = c.args.scheduled.now.layout in
    let p = c.args.cell.0 in
    let v = c.variable-var.result.now in
    let piece = c.piece-item.result in
    let x = c.index-cells-cell.result in
    let slots = c.index-slots-cell.result in
    let j = c.loop-number.number in
    let on = here t l p x v slots c.cells.result.now c.slots.result.now c.cells.ensures.scheduled.layout c.requires.cell c.cells.ensures.is c.index-cells-cell.is c.variable-var.ensures c.slots.ensures.is c.index-slots-cell.is in
    let lp : j < length c.as_slice-piece-items.result.now = search rules in
    let at = read_at v.pieces c.as_slice-piece-items.result.now j piece c.as_slice-piece-items.ensures lp c.piece-item.is in
    let is = get_mapped view_piece v.pieces j piece at in
    let used : IsTrue c.is_used.result ↔ Any (λ (t : Slot). IsTrue (has piece.domain t.point)) slots = subst (λ (ts : List Slot). IsTrue c.is_used.result ↔ Any (λ (t : Slot). IsTrue (has piece.domain t.point)) ts) c.as_slice-slots.ensures c.is_used.ensures in
    let s = view_system t.flat in
    let so_far = c.loop-number.invariant in
    let node = (get_or c.cells.result.now p x).node in
    let size_is = size_here s v c.args.sizes.now c.index-sizes-node.result c.as_slice-own.result.now node j piece c.requires.sizes c.index-sizes-node.is c.as_slice-own.ensures c.variable-var.ensures at in
    elim c.if-is_used.branch [
      | then-is_used w ↦ (
          let new : c.if-is_used.sum ≡ c.loop-number.sum + made_size piece = w.sum-is ∙ ap (λ (n : ℕ). c.loop-number.sum + n) size_is in record {
            counted = subst (λ (n : ℕ). IsCountOf s l.placements l.cells (λ u. (u.cell ≡ p) × (u.piece < j + 1)) n) (sym new)
                (one_more s l.placements l.cells p j c.loop-number.sum (view_piece piece) so_far.counted (use_of s l.placements l.cells p (view_variable v) slots on j (view_piece piece) is (used.0 w.if-is_used.true)));
            most = (let a = so_far.most in let b = w.sum-is in let f = c.type_inv.own j in omega (arith, a, b, f));
          })
      | else-is_used w ↦ (
          let same : c.if-is_used.sum ≡ c.loop-number.sum = w.sum-is in record {
            counted = subst (λ (n : ℕ). IsCountOf s l.placements l.cells (λ u. (u.cell ≡ p) × (u.piece < j + 1)) n) (sym same)
                (not_more s l.placements l.cells p j c.loop-number.sum so_far.counted (λ q u. unused (view_piece piece) q (view_variable v) j is slots c.is_used.result used w.if-is_used.false (slot_of_use s l.placements l.cells p (view_variable v) slots on j q u)));
            most = (let a = so_far.most in omega (arith, a, same));
          })
    ]

pub returns-clause-count : goal.returns-clause-count
returns-clause-count c =
    let s = view_system c.args.scheduled.now.timed.flat in
    let t = c.args.scheduled.now.timed in
    let l = c.args.scheduled.now.layout in
    let p = c.args.cell.0 in
    let v = c.variable-var.result.now in
    let x = c.index-cells-cell.result in
    let slots = c.index-slots-cell.result in
    let on = here t l p x v slots c.cells.result.now c.slots.result.now c.cells.ensures.scheduled.layout c.requires.cell c.cells.ensures.is c.index-cells-cell.is c.variable-var.ensures c.slots.ensures.is c.index-slots-cell.is in
    let over : length c.as_slice-piece-items.result.now ≤ c.loop-number.number = search rules in
    whole_cell s l.placements l.cells p c.loop-number.number c.loop-number.sum c.loop-number.invariant.counted (λ u piece is_use e. within u piece s l.placements l.cells is_use p e v slots on c.as_slice-piece-items.result.now c.as_slice-piece-items.ensures c.loop-number.number over)
