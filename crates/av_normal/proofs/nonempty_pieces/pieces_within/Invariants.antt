use Rattle.std.proofs.Common.{◌≡◌, map, length, ◌++◌, List}
use Rattle.std.specs.List.{AllByRecursion}
use Rattle.std.specs.Vec.Iter.{into_iter_items, into_iter_len}
use Rattle.av_flat.specs.Trees.{Piece, view_piece}
use Rattle.av_normal.specs.inner.NonemptyPieces.{AreNonemptyPieces, IsInside}
use Rattle.av_normal.proofs.nonempty_pieces.pieces_within.Given as goal

-- those kept so far, and what holds of those to come
abbrev pub invariant-loop-piece : goal.invariant-loop-piece
invariant-loop-piece l = record {
  inside : AllByRecursion (IsInside l.within) (map view_piece (into_iter_items l.piece-iterator));
  made : (rest : List Piece) → AreNonemptyPieces (map view_piece (into_iter_items l.piece-iterator)) rest → AreNonemptyPieces (map view_piece l.fn.pieces) (map view_piece l.kept ++ rest);
  left : into_iter_len l.piece-iterator ≡ length (into_iter_items l.piece-iterator);
}
