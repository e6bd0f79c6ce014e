use Rattle.std.proofs.Common.{map, drop, ◌++◌, List, Option}
use Rattle.std.specs.List.{AllByRecursion}
use Rattle.av_poly.specs.declared.poly.Bounds.{Bounds}
use Rattle.av_flat.specs.Trees.{view_variable}
use Rattle.av_normal.specs.declared.fault.NormalFault.{NormalFault}
use Rattle.av_normal.specs.Pairwise.{Pairwise}
use Rattle.av_normal.specs.Domains.{HasNarrowDomain, IsDeclaredExtent, IsEndless}
use Rattle.av_normal.proofs.bounded.extents.Given as goal

-- the boxes so far, and what holds of those to come
abbrev pub invariant-loop-var : goal.invariant-loop-var
invariant-loop-var l = record {
  narrow : AllByRecursion HasNarrowDomain (map view_variable (drop l.var-index l.vars));
  made : (rest : List (Option Bounds)) → Pairwise IsDeclaredExtent (map view_variable (drop l.var-index l.vars)) rest → Pairwise IsDeclaredExtent (map view_variable l.vars) (l.extents ++ rest);
  endless : (f : NormalFault) → IsEndless (map view_variable (drop l.var-index l.vars)) f → IsEndless (map view_variable l.vars) f;
}
