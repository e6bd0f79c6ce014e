use Rattle.std.proofs.Common.{map, drop}
use Rattle.av_flat.specs.Trees.{view_variable}
use Rattle.av_normal.specs.inner.Counted.{HasFew, IsOfMany}
use Rattle.av_normal.specs.declared.fault.NormalFault.{NormalFault}
use Rattle.av_normal.proofs.count.few_pieces.Given as goal

-- what holds of those to come holds of all
abbrev pub invariant-loop-var : goal.invariant-loop-var
invariant-loop-var l = record {
  few : HasFew (map view_variable (drop l.var-index l.vars)) → HasFew (map view_variable l.vars);
  many : (f : NormalFault) → IsOfMany (map view_variable (drop l.var-index l.vars)) f → IsOfMany (map view_variable l.vars) f;
}
