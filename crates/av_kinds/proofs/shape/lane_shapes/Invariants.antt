use Rattle.std.proofs.Common.{◌≡◌, ◌++◌, drop, map}
use Rattle.av_kinds.specs.Written.{lane_of}
use Rattle.av_kinds.specs.inner.Shapes.{lane_shape_of}
use Rattle.av_kinds.specs.inner.Shaped.{lane_shapes}
use Rattle.av_kinds.proofs.shape.lane_shapes.Given as goal

abbrev pub invariant-loop-k : goal.invariant-loop-k
invariant-loop-k l = map lane_shape_of l.shapes ++ lane_shapes (map lane_shape_of (drop l.k l.before)) (map lane_of (drop l.k l.lanes)) ≡ lane_shapes (map lane_shape_of l.before) (map lane_of l.lanes)
