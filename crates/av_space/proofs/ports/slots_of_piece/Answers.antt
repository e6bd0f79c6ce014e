use Rattle.std.proofs.Common.{rules, ◌≡◌, ◌∙◌, ◌+◌, ◌<◌, ◌≤◌, ℕ, List, Some, length, get_or, refl, sym, ap, subst, arith}
use Rattle.std.specs.Prelude.{slice_get, filter}
use Rattle.av_flat.specs.Points.{has}
use Rattle.av_space.specs.declared.layout.Slot.{Slot}
use Rattle.av_space.specs.inner.Apart.{AreOfNode}
use Rattle.av_space.specs.inner.NodePieces.{AreOwnSlots}
use Rattle.av_space.proofs.ByPlace.{read_at}
use Rattle.av_space.proofs.OwnSlots.{no_cells, one_cell_of_piece}
use Rattle.av_space.proofs.ports.slots_of_piece.Goals as goal

row_there : (all rows : List (List Slot)) (p last : ℕ) (row : List Slot) → rows ≡ all → p < last → last ≤ length all → row ≡ get_or rows p row → slice_get all p ≡ Some row
row_there all rows p last row e high within is = read_at all rows p row e (let m = ap (λ (xs : List (List Slot)). length xs) e in omega (arith, m, high, within)) is

pub slots_in-requires : goal.slots_in-requires
slots_in-requires c =
    let p = c.loop-cell.cell in
    let row = c.index-rows-cell.result in
    let low : c.args.cells.first ≤ p = search rules in
    let high : p < c.args.cells.last = search rules in
    let there = row_there c.args.rows.now c.args.rows.now p c.args.cells.last row refl high c.requires.within c.index-rows-cell.is in
    subst (λ (ts : List Slot). AreOfNode c.args.piece.now.domain ts) (sym c.as_slice-slots.ensures) (c.requires.slots p row low high there)

pub loop-cell-init : goal.loop-cell-init
loop-cell-init c =
    subst (λ (own : List (List Slot)). AreOwnSlots c.args.rows.now c.args.piece.now.domain c.args.cells.first c.args.cells.first own) (sym c.new-own.ensures) (no_cells c.args.rows.now c.args.piece.now.domain c.args.cells.first)

pub loop-cell-preserved : goal.loop-cell-preserved
loop-cell-preserved c =
    let rows = c.args.rows.now in
    let set = c.args.piece.now.domain in
    let p = c.loop-cell.cell in
    let row = c.index-rows-cell.result in
    let high : p < c.args.cells.last = search rules in
    let there = row_there rows c.args.rows.now p c.args.cells.last row refl high c.requires.within c.index-rows-cell.is in
    let mine : c.in_ok-part.part ≡ filter (λ (t : Slot). has set t.point) row = c.in_ok-part.ensures ∙ ap (λ (ts : List Slot). filter (λ (t : Slot). has set t.point) ts) c.as_slice-slots.ensures in
    subst (λ (own : List (List Slot)). AreOwnSlots rows set c.args.cells.first (p + 1) own) (sym c.in_ok-push.ensures.ok) (one_cell_of_piece rows set c.args.cells.first p c.loop-cell.own row c.in_ok-part.part there mine c.loop-cell.invariant)

pub returns : goal.returns
returns c =
    let over : c.args.cells.last ≤ c.loop-cell.cell = search rules in
    let few : c.loop-cell.cell ≤ c.args.cells.last = search rules in
    let same : c.loop-cell.cell ≡ c.args.cells.last = omega (arith, over, few) in
    subst (λ (p : ℕ). AreOwnSlots c.args.rows.now c.args.piece.now.domain c.args.cells.first p c.loop-cell.own) same c.loop-cell.invariant
