use Rattle.std.proofs.Common.{◌≡◌, ◌++◌, drop, map}
use Rattle.std.specs.List.{AllByRecursion}
use Rattle.av_flat.specs.Trees.{Piece, view_piece}
use Rattle.av_pipe.specs.inner.Helping.{HasFineMaps}
use Rattle.av_pipe.specs.Pipelines.{of_pieces}
use Rattle.av_pipe.proofs.site.piece_helpers.Given as goal

-- those so far and those to come are all
abbrev pub invariant-loop-number : goal.invariant-loop-number
invariant-loop-number l = record {
  maps : AllByRecursion (λ (p : Piece). HasFineMaps l.points p.tree) (map view_piece (drop l.number l.pieces));
  made : l.helpers ++ of_pieces l.place.0 l.linear l.number (map view_piece (drop l.number l.pieces)) ≡ l.initial.helpers ++ of_pieces l.place.0 l.linear 0 (map view_piece l.pieces);
}
