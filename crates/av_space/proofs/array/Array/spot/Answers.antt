use Rattle.std.proofs.Common.{◌≡◌, ◌∙◌, ℕ, ◌<◌, List, length, get_or, refl, sym, ap, subst, arith, Some}
use Rattle.std.specs.Prelude.{slice_get, filter}
use Rattle.std.proofs.lemmas.Option.{slice_get-get_or}
use Rattle.std.proofs.lemmas.Grind.{common_steps}
use Rattle.av_flat.specs.declared.timed.Timed.{Timed}
use Rattle.av_flat.specs.Nodes.{nodes, node_place}
use Rattle.av_flat.specs.Points.{has}
use Rattle.av_flat.specs.Trees.{view_piece, view_system, view_variable}
use Rattle.av_space.specs.declared.cells.Cell.{Cell}
use Rattle.av_space.specs.declared.layout.Slot.{Slot}
use Rattle.av_space.specs.Spots.{system_of, placings_of, cells_of, AreSlotsIn}
use Rattle.av_space.proofs.OffCells.{are_of_node}
use Rattle.av_space.proofs.OnSpots.{some_slots}
use Rattle.av_space.proofs.SiteLinks.{cell_node}
use Rattle.av_space.proofs.array.Array.spot.Goals as goal
use Rattle.av_base.proofs.Lists.{some_is}

pub place-place-requires : goal.place-place-requires
place-place-requires c =
    let a = c.args.self.now in
    let is = c.requires.array in
    let d = c.index-as_slice-on.result in
    let l = cell_node (system_of a) (placings_of a) (cells_of a) is.layout.are_cells c.args.on.cell.0 d c.requires.cell in
    let same = ap (λ (x : List Cell). (get_or x c.args.on.cell.0 d).node) c.as_slice.ensures in
    let n = (get_or c.as_slice.result.now c.args.on.cell.0 d).node in
    let low : n < length (nodes (system_of a)) = omega (arith, l, same) in
    subst (λ (t : Timed). n < length (nodes (view_system t.flat))) (sym is.nodes) low

pub slots_in-requires : goal.slots_in-requires
slots_in-requires c =
    let a = c.args.self.now in
    let v = c.variable-var.ensures in
    let var = c.variable-var.result.now in
    are_of_node a.timed.now a.layout c.args.on.cell.0 (view_variable var) c.slots.result.now c.requires.array.legal c.requires.array.layout.are_placings
    (record { cell = v.cell; is_cell = v.is_cell; is_variable = v.is_variable; are_slots = c.slots.ensures }) c.args.on.number (view_piece c.piece_at-piece.result.now) c.piece_at-piece.ensures

pub returns : goal.returns
returns c =
    let a = c.args.self.now in
    let s = system_of a in
    let k = c.args.on.cell.0 in
    let v = c.variable-var.ensures in
    let d = c.index-as_slice-on.result in
    let here = get_or c.as_slice.result.now k d in
    let there : slice_get (cells_of a) k ≡ Some (get_or (cells_of a) k d) = slice_get-get_or (cells_of a) k d c.requires.cell in
    let same : v.cell ≡ here = some_is v.cell (get_or (cells_of a) k d) (sym v.is_cell ∙ there) ∙ ap (λ (x : List Cell). get_or x k d) (sym c.as_slice.ensures) in
    let node : v.cell.node ≡ here.node = ap (λ (x : Cell). x.node) same in
    let set = c.piece_at-piece.result.now.domain in
    let own : AreSlotsIn a k v.cell.node set (filter (λ (t : Slot). has set t.point) c.slots.result.now) = some_slots a k v.cell set c.slots.result.now v.is_cell c.slots.ensures in (
      refl,
      refl,
      record {
        cell = v.cell;
        is_cell = v.is_cell;
        node = node;
        place = c.place-place.ensures ∙ ap (λ (t : Timed). node_place (view_system t.flat) here.node) c.requires.array.nodes;
        is_variable = subst (λ (n : ℕ). slice_get (nodes s) n ≡ Some (view_variable c.variable-var.result.now)) node v.is_variable;
        is_piece = c.piece_at-piece.ensures;
        are_slots = subst (λ (slots : List Slot). AreSlotsIn a k here.node set slots) (sym c.in_ok-slots.ensures) (subst (λ (n : ℕ). AreSlotsIn a k n set (filter (λ (t : Slot). has set t.point) c.slots.result.now)) node own);
      },
    )

pub piece_at-piece-requires : goal.piece_at-piece-requires
piece_at-piece-requires c = grind (arith, common_steps)
