use Rattle.av_space.proofs.OnSpots.{AreSpotsBelow}
use Rattle.av_space.proofs.array.Array.spots.Given as goal

abbrev pub invariant-loop-number : goal.invariant-loop-number
invariant-loop-number l = AreSpotsBelow l.self l.cell.0 l.number l.spots
