use Rattle.std.proofs.Common.{◌≡◌, ◌++◌, map, drop}
use Rattle.av_flat.specs.Trees.{view_piece}
use Rattle.av_flat.specs.Sites.{places_from, place_of}
use Rattle.av_flat.proofs.sites.piece_places.Given as goal

abbrev pub invariant-loop-number : goal.invariant-loop-number
invariant-loop-number l = map place_of l.places ++ places_from l.number (map view_piece (drop l.number l.pieces)) ≡ places_from 0 (map view_piece l.pieces)
