use Rattle.av_space.specs.inner.Showing.{AreLinesBelow}
use Rattle.av_space.proofs.shown.at_lines.Given as goal

abbrev pub invariant-loop-node : goal.invariant-loop-node
invariant-loop-node l = AreLinesBelow l.scheduled l.outputs l.node l.lines
