use Rattle.std.proofs.Common.{◌≡◌, ◌++◌, drop, map, filter}
use Rattle.av_kinds.specs.inner.Shapes.{mode_shape_of}
use Rattle.av_kinds.specs.inner.Shaped.{is_used}
use Rattle.av_kinds.proofs.shape.used.Given as goal

abbrev pub invariant-loop-mode : goal.invariant-loop-mode
invariant-loop-mode l = map mode_shape_of l.modes ++ filter is_used (map mode_shape_of (drop l.mode-index l.lane.modes)) ≡ filter is_used (map mode_shape_of l.lane.modes)
