use Rattle.std.proofs.Common.{◌≤◌, length}
use Rattle.av_space.specs.inner.Feeding.{IsFirstOf}
use Rattle.av_space.specs.inner.NodePieces.{ArePortsOf}
use Rattle.av_space.proofs.ports.add_nodes.Given as goal

abbrev pub invariant-loop-node : goal.invariant-loop-node
invariant-loop-node l = ArePortsOf l.scheduled l.node 0 l.first l.ports × IsFirstOf l.scheduled.layout.cells l.node l.first × (l.first ≤ length l.scheduled.layout.cells)
