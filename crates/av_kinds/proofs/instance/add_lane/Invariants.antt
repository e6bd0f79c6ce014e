use Rattle.std.proofs.Common.{◌≡◌, ◌++◌, drop, map}
use Rattle.av_kinds.specs.Written.{program_of, mode_of}
use Rattle.av_kinds.specs.Names.{labels}
use Rattle.av_kinds.specs.inner.Instances.{modes_operands}
use Rattle.av_kinds.specs.inner.Shapes.{mode_shape_of}
use Rattle.av_kinds.proofs.instance.add_lane.Given as goal

abbrev pub invariant-loop-k : goal.invariant-loop-k
invariant-loop-k l = l.operands ++ modes_operands (labels (program_of l.program)) (map mode_shape_of (drop l.k l.shape.modes)) (map mode_of l.lane.modes) ≡ l.initial.operands ++ modes_operands (labels (program_of l.program)) (map mode_shape_of l.shape.modes) (map mode_of l.lane.modes)
