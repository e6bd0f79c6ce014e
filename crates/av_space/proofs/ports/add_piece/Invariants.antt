use Rattle.av_space.specs.inner.NodePieces.{ArePortsAt}
use Rattle.av_space.proofs.ports.add_piece.Given as goal

abbrev pub invariant-loop-number : goal.invariant-loop-number
invariant-loop-number l = ArePortsAt l.at l.number l.at.first l.ports
