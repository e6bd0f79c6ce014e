use Rattle.std.proofs.Common.{rules, ◌≡◌, ◌+◌, ◌<◌, ◌≤◌, ℕ, List, length, map, sym, ap, subst, arith}
use Rattle.std.proofs.lemmas.List.{length-map}
use Rattle.av_flat.specs.declared.flat.Piece.{Piece as PieceMade}
use Rattle.av_flat.specs.Trees.{view_piece, view_variable}
use Rattle.av_space.specs.declared.layout.Slot.{Slot}
use Rattle.av_space.specs.inner.Readings.{AreOwnTo}
use Rattle.av_space.proofs.ByPlace.{read_at}
use Rattle.av_space.proofs.OwnSlots.{no_pieces, one_piece_of_cell}
use Rattle.av_space.proofs.linking.slots_of_pieces.Goals as goal
use Rattle.av_base.proofs.Lists.{get_mapped}

pub slots_in-requires : goal.slots_in-requires
slots_in-requires c =
    let v = c.args.consumer.now.var.now in
    let k = c.loop-piece.piece-index in
    let piece = c.piece-item.result in
    let l : k < length c.as_slice-piece-items.result.now = search rules in
    c.requires k (view_piece piece) (get_mapped view_piece v.pieces k piece (read_at v.pieces c.as_slice-piece-items.result.now k piece c.as_slice-piece-items.ensures l c.piece-item.is))

pub loop-piece-init : goal.loop-piece-init
loop-piece-init c =
    let v = view_variable c.args.consumer.now.var.now in
    let slots = c.args.consumer.now.slots.now in
    subst (λ (own : List (List Slot)). AreOwnTo v slots 0 own) (sym c.new-own.ensures) (no_pieces v slots)

pub loop-piece-preserved : goal.loop-piece-preserved
loop-piece-preserved c =
    let v = c.args.consumer.now.var.now in
    let slots = c.args.consumer.now.slots.now in
    let k = c.loop-piece.piece-index in
    let piece = c.piece-item.result in
    let l : k < length c.as_slice-piece-items.result.now = search rules in
    let here = get_mapped view_piece v.pieces k piece (read_at v.pieces c.as_slice-piece-items.result.now k piece c.as_slice-piece-items.ensures l c.piece-item.is) in
    subst (λ (own : List (List Slot)). AreOwnTo (view_variable v) slots (k + 1) own) (sym c.in_ok-push.ensures.ok) (one_piece_of_cell (view_variable v) slots k c.loop-piece.own c.in_ok-part.part (view_piece piece) here c.in_ok-part.ensures c.loop-piece.invariant)

pub returns : goal.returns
returns c =
    let v = c.args.consumer.now.var.now in
    let k = c.loop-piece.piece-index in
    let items = ap (λ (ps : List PieceMade). length ps) c.as_slice-piece-items.ensures in
    let made : length (map view_piece v.pieces) ≡ length v.pieces = length-map v.pieces view_piece in
    let over : length c.as_slice-piece-items.result.now ≤ k = search rules in
    let few = c.loop-piece.invariant.within in
    let same : k ≡ length (map view_piece v.pieces) = omega (arith, items, made, over, few) in
    subst (λ (n : ℕ). AreOwnTo (view_variable v) c.args.consumer.now.slots.now n c.loop-piece.own) same c.loop-piece.invariant
