use Rattle.std.proofs.Common.{◌≡◌, map, take}
use Rattle.av_flat.specs.Trees.{view_piece}
use Rattle.av_flat.proofs.copy.copy_pieces.Given as goal

abbrev pub invariant-loop-piece : goal.invariant-loop-piece
invariant-loop-piece l = map view_piece l.to ≡ map view_piece (take l.piece-index l.pieces)
