use Rattle.std.proofs.Common.{◌≡◌, ℕ, List, length, map}
use Rattle.std.specs.List.{AllByRecursion}
use Rattle.std.specs.Vec.Iter.{into_iter_items, into_iter_len}
use Rattle.av_flat.specs.Trees.{view_piece}
use Rattle.av_flat.specs.Pieces.{Part}
use Rattle.av_normal.specs.inner.Making.{AreMade, IsHolder, IsFilledTo}
use Rattle.av_normal.specs.inner.AllPieces.{ArePiecesOfParts}
use Rattle.av_normal.proofs.all_pieces.trees_filled.Given as goal

-- the pieces to come, and what has become of those before
abbrev pub invariant-loop-piece : goal.invariant-loop-piece
invariant-loop-piece l = record {
  holders : AllByRecursion IsHolder (map view_piece (into_iter_items l.piece-iterator));
  filled : (dim : ℕ) (ps : List Part) → AreMade dim ps (map view_piece l.fn.pieces)
      → IsFilledTo (ArePiecesOfParts dim) dim ps (map view_piece l.all_pieces) (map view_piece (into_iter_items l.piece-iterator));
  left : into_iter_len l.piece-iterator ≡ length (into_iter_items l.piece-iterator);
}
