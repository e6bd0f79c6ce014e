use Rattle.std.proofs.Common.{◌≡◌, ◌++◌, drop, map}
use Rattle.std.specs.List.{AllByRecursion}
use Rattle.av_kinds.specs.inner.Shapes.{lane_shape_of}
use Rattle.av_kinds.specs.inner.Modules.{IsSmallKind, kinds_by}
use Rattle.av_kinds.proofs.planning.kinds.Given as goal

abbrev pub invariant-loop-number : goal.invariant-loop-number
invariant-loop-number l = record { are : l.kinds ++ kinds_by l.number (map (map lane_shape_of) (drop l.number l.shapes)) ≡ kinds_by 0 (map (map lane_shape_of) l.shapes); small : AllByRecursion IsSmallKind l.kinds }
