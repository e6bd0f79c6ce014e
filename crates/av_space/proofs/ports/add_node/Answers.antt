use Rattle.std.proofs.Common.{rules, ◌≡◌, ◌≤◌, List, length, map, sym, ap, subst, arith}
use Rattle.std.proofs.lemmas.List.{length-map}
use Rattle.av_flat.specs.Broadcasts.{references}
use Rattle.av_flat.specs.Trees.{view, view_piece, view_variable, view_system}
use Rattle.av_space.specs.declared.layout.Slot.{Slot}
use Rattle.av_space.specs.declared.ports.NodePiece.{NodePiece}
use Rattle.av_space.specs.inner.NodePieces.{AreOfPiece, AreOwnSlots, IsNodePiece}
use Rattle.av_space.proofs.OwnSlots.{are_of_piece}
use Rattle.av_space.proofs.Fed.{next_node}
use Rattle.av_space.proofs.NodeParts.{piece_below, piece_passed}
use Rattle.av_space.proofs.ports.add_node.Goals as goal

pub slots_of_piece-requires-clause-slots : goal.slots_of_piece-requires-clause-slots
slots_of_piece-requires-clause-slots c =
    let r = c.requires in
    let set = c.piece_at-piece.result.now.domain in
    subst (λ (rows : List (List Slot)). AreOfPiece rows set c.args.cells.first c.args.cells.last) (sym c.slots.ensures.is)
    (are_of_piece c.args.scheduled.now.timed c.args.scheduled.now.layout c.args.cells.node.0 c.loop-number.number c.args.cells.first c.args.cells.last (view_variable c.variable-var.result.now) (view_piece c.piece_at-piece.result.now) c.slots.ensures.scheduled.legal c.slots.ensures.scheduled.layout c.variable-var.ensures c.piece_at-piece.ensures
    r.cells.first r.cells.last r.cells.within)

pub slots_of_piece-requires-clause-ordered : goal.slots_of_piece-requires-clause-ordered
slots_of_piece-requires-clause-ordered c = c.requires.cells.ordered

pub slots_of_piece-requires-clause-within : goal.slots_of_piece-requires-clause-within
slots_of_piece-requires-clause-within c = let within = c.requires.cells.within in let one_each = c.slots.ensures.scheduled.layout.one_each in let rows = ap (λ (xs : List (List Slot)). length xs) c.slots.ensures.is in omega (arith, within, one_each, rows)

pub add_piece-requires-clause-at : goal.add_piece-requires-clause-at
add_piece-requires-clause-at c =
    let r = c.requires in
    record {
      scheduled = c.slots.ensures.scheduled;
      variable = view_variable c.variable-var.result.now;
      is_variable = c.variable-var.ensures;
      is_piece = c.piece_at-piece.ensures;
      first = r.cells.first;
      last = r.cells.last;
      ordered = r.cells.ordered;
      within = r.cells.within;
      own = subst (λ (rows : List (List Slot)). AreOwnSlots rows c.piece_at-piece.result.now.domain c.args.cells.first c.args.cells.last c.in_ok-own.own) c.slots.ensures.is c.in_ok-own.ensures;
    }

pub loop-number-preserved : goal.loop-number-preserved
loop-number-preserved c =
    let r = c.requires in
    let at : NodePiece = record {
      scheduled = c.args.scheduled;
      node = c.args.cells.node;
      piece = c.piece_at-piece.result;
      number = c.loop-number.number;
      first = c.args.cells.first;
      last = c.args.cells.last;
      own = c.in_ok-own.own;
    } in
    let is : IsNodePiece at = record {
      scheduled = c.slots.ensures.scheduled;
      variable = view_variable c.variable-var.result.now;
      is_variable = c.variable-var.ensures;
      is_piece = c.piece_at-piece.ensures;
      first = r.cells.first;
      last = r.cells.last;
      ordered = r.cells.ordered;
      within = r.cells.within;
      own = subst (λ (rows : List (List Slot)). AreOwnSlots rows c.piece_at-piece.result.now.domain c.args.cells.first c.args.cells.last c.in_ok-own.own) c.slots.ensures.is c.in_ok-own.ensures;
    } in
    piece_passed at is (length (references (view c.piece_at-piece.result.now.tree))) c.add_piece.new.ports (omega arith) c.in_ok-add_piece.ensures

pub returns : goal.returns
returns c =
    let t = c.args.scheduled.now.timed in
    let l = c.args.scheduled.now.layout in
    let s = view_system t.flat in
    let v = c.variable-var.result.now in
    let over : c.len-number-end.result ≤ c.loop-number.number = search rules in
    let many : length (map view_piece v.pieces) ≤ c.loop-number.number =
    (let a : length (map view_piece v.pieces) ≡ length v.pieces = length-map v.pieces view_piece in let b = c.len-number-end.ensures.count in omega (arith, over, a, b)) in
    next_node s t.helpers l.placements l.cells c.args.cells.node.0 c.loop-number.number c.args.cells.first c.args.cells.last c.loop-number.ports c.requires.cells.last
    (λ port h e. let b = piece_below s t.helpers l.placements l.cells c.args.cells.node.0 (view_variable v) c.variable-var.ensures port h e in omega (arith, b, many)) c.loop-number.invariant
