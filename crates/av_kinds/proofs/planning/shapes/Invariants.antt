use Rattle.std.proofs.Common.{◌≡◌, map}
use Rattle.av_kinds.specs.Written.{program_of}
use Rattle.av_kinds.specs.inner.Shapes.{lane_shape_of}
use Rattle.av_kinds.proofs.ShapeMade.{shapes_of}
use Rattle.av_kinds.proofs.planning.shapes.Given as goal

abbrev pub invariant-loop-number : goal.invariant-loop-number
invariant-loop-number l = map (map lane_shape_of) l.shapes ≡ shapes_of (program_of l.program) l.number
