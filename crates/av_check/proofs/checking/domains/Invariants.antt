use Rattle.std.proofs.Common.{◌≡◌, map, take}
use Rattle.av_flat.specs.Trees.{view_piece}
use Rattle.av_check.proofs.checking.domains.Given as goal

abbrev pub invariant-loop-piece : goal.invariant-loop-piece
invariant-loop-piece l = l.sets ≡ map (λ p. p.domain) (map view_piece (take l.piece-index l.pieces))
