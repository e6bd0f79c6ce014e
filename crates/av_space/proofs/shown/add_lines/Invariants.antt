use Rattle.std.proofs.Common.{take}
use Rattle.av_space.specs.inner.Showing.{AreLinesTo}
use Rattle.av_space.proofs.shown.add_lines.Given as goal

abbrev pub invariant-loop-z : goal.invariant-loop-z
invariant-loop-z l = AreLinesTo l.shown.scheduled.now l.shown.outputs.now l.shown.node.0 (take l.z-index l.z-items) l.lines
