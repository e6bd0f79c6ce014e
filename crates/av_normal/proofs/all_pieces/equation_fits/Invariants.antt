use Rattle.std.proofs.Common.{map, drop}
use Rattle.av_flat.specs.Trees.{view_piece}
use Rattle.av_normal.specs.inner.Making.{maps_measured, StandsFor}
use Rattle.av_normal.proofs.all_pieces.equation_fits.Given as goal

abbrev pub invariant-loop-piece : goal.invariant-loop-piece
invariant-loop-piece l = StandsFor (maps_measured (map view_piece (drop l.piece-index l.equation))) (maps_measured (map view_piece l.equation))
