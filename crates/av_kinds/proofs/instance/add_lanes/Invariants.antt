use Rattle.std.proofs.Common.{◌≡◌, ◌++◌, drop, map}
use Rattle.av_kinds.specs.Written.{program_of, lane_of}
use Rattle.av_kinds.specs.Names.{labels}
use Rattle.av_kinds.specs.inner.Instances.{lanes_operands}
use Rattle.av_kinds.specs.inner.Shapes.{lane_shape_of}
use Rattle.av_kinds.proofs.instance.add_lanes.Given as goal

abbrev pub invariant-loop-k : goal.invariant-loop-k
invariant-loop-k l = l.operands ++ lanes_operands (labels (program_of l.program)) (map lane_shape_of (drop l.k l.shape)) (map lane_of (drop l.k l.lanes)) ≡ l.initial.operands ++ lanes_operands (labels (program_of l.program)) (map lane_shape_of l.shape) (map lane_of l.lanes)
