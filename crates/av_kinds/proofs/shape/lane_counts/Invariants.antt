use Rattle.std.proofs.Common.{◌≡◌, drop, map}
use Rattle.std.specs.List.{list_any}
use Rattle.av_kinds.specs.inner.Shapes.{mode_shape_of}
use Rattle.av_kinds.specs.inner.Kinds.{selects}
use Rattle.av_kinds.proofs.shape.lane_counts.Given as goal

abbrev pub invariant-loop-mode : goal.invariant-loop-mode
invariant-loop-mode l = list_any selects (map mode_shape_of (drop l.mode-index l.modes)) ≡ list_any selects (map mode_shape_of l.modes)
