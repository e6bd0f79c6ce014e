use Rattle.std.proofs.Common.{◌≡◌, ◌++◌, drop, map}
use Rattle.av_kinds.specs.Written.{mode_of}
use Rattle.av_kinds.specs.inner.Shapes.{mode_shape_of}
use Rattle.av_kinds.specs.inner.Shaped.{mode_shapes}
use Rattle.av_kinds.proofs.shape.mode_shapes.Given as goal

abbrev pub invariant-loop-number : goal.invariant-loop-number
invariant-loop-number l = map mode_shape_of l.shapes ++ mode_shapes (map mode_shape_of (drop l.number l.before)) l.number (map mode_of (drop l.number l.modes)) ≡ mode_shapes (map mode_shape_of l.before) 0 (map mode_of l.modes)
