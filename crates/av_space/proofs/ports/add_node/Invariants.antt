use Rattle.av_space.specs.inner.NodePieces.{ArePortsOf}
use Rattle.av_space.proofs.ports.add_node.Given as goal

abbrev pub invariant-loop-number : goal.invariant-loop-number
invariant-loop-number l = ArePortsOf l.scheduled l.cells.node.0 l.number l.cells.first l.ports
