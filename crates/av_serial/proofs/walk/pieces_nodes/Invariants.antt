use Rattle.std.proofs.Common.{drop, map}
use Rattle.std.specs.List.{flat_map}
use Rattle.av_flat.specs.Trees.{Piece, view_piece}
use Rattle.av_serial.specs.SerialFaults.{reductions_in, HasNodes}
use Rattle.av_serial.specs.inner.Tries.{CanTryPieces}
use Rattle.av_serial.specs.inner.Counted.{IsCapped}
use Rattle.av_serial.proofs.Finding.{IsWalk, IsCount}
use Rattle.av_serial.proofs.walk.pieces_nodes.Given as goal

-- those so far have no cause for a fault and are counted
abbrev pub invariant-loop-piece : goal.invariant-loop-piece
invariant-loop-piece l = record {
  can : CanTryPieces (map view_piece (drop l.piece-index l.pieces));
  walk : IsWalk (flat_map (λ (p : Piece). reductions_in l.name p.tree) (map view_piece l.pieces)) (flat_map (λ (p : Piece). reductions_in l.name p.tree) (map view_piece (drop l.piece-index l.pieces)));
  count : IsCapped (IsCount (λ (p : Piece). HasNodes p.tree) (map view_piece l.pieces) (map view_piece (drop l.piece-index l.pieces))) l.count;
}
