use Rattle.std.proofs.Common.{◌≡◌, [], drop, map}
use Rattle.av_kinds.specs.Written.{program_of}
use Rattle.av_kinds.specs.inner.Shapes.{lane_shape_of}
use Rattle.av_kinds.specs.inner.Shaped.{shapes_by}
use Rattle.av_kinds.proofs.shape.whole_shape.Given as goal

abbrev pub invariant-loop-cell : goal.invariant-loop-cell
invariant-loop-cell l = shapes_by (program_of l.program) l.kind (map lane_shape_of l.shapes) (drop l.cell l.program.cells) (drop l.cell l.program.kinds) ≡ shapes_by (program_of l.program) l.kind [] l.program.cells l.program.kinds
