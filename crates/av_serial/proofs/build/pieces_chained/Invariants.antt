use Rattle.std.proofs.Common.{◌≡◌, ◌≤◌, ◌+◌, length, map}
use Rattle.std.specs.Vec.Iter.{into_iter_items, into_iter_len}
use Rattle.av_flat.specs.Trees.{view_piece}
use Rattle.av_serial.specs.inner.Premises.{PiecesHavePremises}
use Rattle.av_serial.proofs.Building.{ArePiecesSoFar}
use Rattle.av_serial.proofs.build.pieces_chained.Given as goal

-- those so far are made, and what is made of those to come makes all
abbrev pub invariant-loop-piece : goal.invariant-loop-piece
invariant-loop-piece l = record {
  ready : PiecesHavePremises l.name (length l.chains) (map view_piece (into_iter_items l.piece-iterator));
  first : l.equation.first.0 ≤ l.equation.base.0 + length l.chains;
  made : ArePiecesSoFar l.name l.equation.first.0 l.equation.width.bits l.equation.base.0 l.initial.chains l.chains (map view_piece l.fn.pieces) (map view_piece (into_iter_items l.piece-iterator)) (map view_piece l.made);
  left : into_iter_len l.piece-iterator ≡ length (into_iter_items l.piece-iterator);
}
