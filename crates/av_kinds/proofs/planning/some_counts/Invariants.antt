use Rattle.std.proofs.Common.{◌≡◌, drop, map}
use Rattle.std.specs.List.{list_any}
use Rattle.av_kinds.specs.inner.Shapes.{lane_shape_of}
use Rattle.av_kinds.specs.inner.Kinds.{counts}
use Rattle.av_kinds.proofs.planning.some_counts.Given as goal

abbrev pub invariant-loop-shape : goal.invariant-loop-shape
invariant-loop-shape l = list_any counts (map (map lane_shape_of) (drop l.shape-index l.shapes)) ≡ list_any counts (map (map lane_shape_of) l.shapes)
