use Rattle.std.proofs.Common.{drop}
use Rattle.std.specs.List.{AllByRecursion}
use Rattle.av_normal.specs.declared.fault.NormalFault.{NormalFault}
use Rattle.av_normal.specs.Pairwise.{IsFirstOf}
use Rattle.av_normal.specs.Domains.{IsSmallExtent, IsLargeExtent}
use Rattle.av_normal.proofs.bounded.boxes_fit.Given as goal

-- what holds of those to come holds of all
abbrev pub invariant-loop-extent : goal.invariant-loop-extent
invariant-loop-extent l = record {
  fit : AllByRecursion IsSmallExtent (drop l.extent-index l.extents) → AllByRecursion IsSmallExtent l.extents;
  over : (f : NormalFault) → IsFirstOf IsSmallExtent (IsLargeExtent f) (drop l.extent-index l.extents) → IsFirstOf IsSmallExtent (IsLargeExtent f) l.extents;
}
