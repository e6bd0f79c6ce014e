use Rattle.av_space.specs.inner.NodePieces.{AreOwnSlots}
use Rattle.av_space.proofs.ports.slots_of_piece.Given as goal

abbrev pub invariant-loop-cell : goal.invariant-loop-cell
invariant-loop-cell l = AreOwnSlots l.rows l.piece.domain l.fn.cells.first l.cell l.own
