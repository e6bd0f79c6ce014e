use Rattle.std.proofs.Common.{take}
use Rattle.av_flat.specs.Trees.{view_system}
use Rattle.av_space.specs.Lengths.{AreLengths}
use Rattle.av_space.proofs.lines.line_lengths.Given as goal

abbrev pub invariant-loop-link : goal.invariant-loop-link
invariant-loop-link l = AreLengths (view_system l.scheduled.timed.flat) l.scheduled.timed.helpers l.scheduled.layout.cells (take l.link-index l.links) l.lengths
