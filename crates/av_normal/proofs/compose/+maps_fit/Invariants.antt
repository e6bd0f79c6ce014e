use Rattle.std.proofs.Common.{map, drop}
use Rattle.av_flat.specs.Trees.{view, trees_of}
use Rattle.av_normal.specs.inner.UnderMaps.{AreUnder}
use Rattle.av_normal.proofs.compose.+maps_fit.Given as goal

abbrev pub invariant-loop-branch : goal.invariant-loop-branch
invariant-loop-branch l = AreUnder l.under (trees_of (map view l.branch-items)) (trees_of (map view (drop l.branch-index l.branch-items)))
