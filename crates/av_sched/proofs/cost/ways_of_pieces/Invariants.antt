use Rattle.std.proofs.Common.{◌≡◌, take}
use Rattle.std.specs.List.{flat_map}
use Rattle.av_flat.specs.Trees.{view}
use Rattle.av_flat.specs.Broadcasts.{references}
use Rattle.av_sched.specs.inner.Ways.{ways_of}
use Rattle.av_sched.proofs.cost.ways_of_pieces.Given as goal

abbrev pub invariant-loop-piece : goal.invariant-loop-piece
invariant-loop-piece l = l.ways ≡ ways_of (flat_map (λ p. references (view p.tree)) (take l.piece-index l.pieces))
