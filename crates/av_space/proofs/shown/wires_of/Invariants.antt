use Rattle.av_space.specs.inner.Showing.{AreWires}
use Rattle.av_space.proofs.shown.wires_of.Given as goal

abbrev pub invariant-loop-cell : goal.invariant-loop-cell
invariant-loop-cell l = AreWires l.outputs l.cell l.wires
