use Rattle.std.proofs.Common.{drop, map}
use Rattle.std.specs.List.{flat_map}
use Rattle.av_flat.specs.Trees.{Piece, Variable, view_variable}
use Rattle.av_serial.specs.SerialFaults.{reductions_in, HasNodesIn}
use Rattle.av_serial.specs.inner.Tries.{CanTryAll}
use Rattle.av_serial.specs.inner.Counted.{IsCapped}
use Rattle.av_serial.proofs.Finding.{IsWalk, IsCount}
use Rattle.av_serial.proofs.walk.all_nodes.Given as goal

-- those so far have no cause for a fault and are counted
abbrev pub invariant-loop-var : goal.invariant-loop-var
invariant-loop-var l = record {
  can : CanTryAll (map view_variable (drop l.var-index l.vars));
  walk : IsWalk (flat_map (λ (v : Variable). flat_map (λ (p : Piece). reductions_in v.name p.tree) v.pieces) (map view_variable l.vars))
      (flat_map (λ (v : Variable). flat_map (λ (p : Piece). reductions_in v.name p.tree) v.pieces) (map view_variable (drop l.var-index l.vars)));
  count : IsCapped (IsCount HasNodesIn (map view_variable l.vars) (map view_variable (drop l.var-index l.vars))) l.count;
}
