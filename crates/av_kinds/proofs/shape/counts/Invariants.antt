use Rattle.std.proofs.Common.{◌≡◌, drop, map}
use Rattle.std.specs.List.{list_any}
use Rattle.av_kinds.specs.inner.Shapes.{lane_shape_of}
use Rattle.av_kinds.specs.inner.Kinds.{lane_counts}
use Rattle.av_kinds.proofs.shape.counts.Given as goal

abbrev pub invariant-loop-lane : goal.invariant-loop-lane
invariant-loop-lane l = list_any lane_counts (map lane_shape_of (drop l.lane-index l.shape)) ≡ list_any lane_counts (map lane_shape_of l.shape)
