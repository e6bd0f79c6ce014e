use Rattle.std.proofs.Common.{◌≡◌, take, map}
use Rattle.av_kinds.specs.inner.Shapes.{lane_shape_of}
use Rattle.av_kinds.specs.inner.Shaped.{used}
use Rattle.av_kinds.proofs.shape.kind_shape.Given as goal

abbrev pub invariant-loop-lane : goal.invariant-loop-lane
invariant-loop-lane l = map lane_shape_of l.shapes ≡ map used (map lane_shape_of (take l.lane-index l.lane-items))
