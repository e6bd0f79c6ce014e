use Rattle.av_space.specs.inner.NodePieces.{ArePortsAt}
use Rattle.av_space.proofs.ports.add_site.Given as goal

abbrev pub invariant-loop-cell : goal.invariant-loop-cell
invariant-loop-cell l = ArePortsAt l.at l.number.0 l.cell l.ports
