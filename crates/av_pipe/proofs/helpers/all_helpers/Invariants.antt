use Rattle.std.proofs.Common.{◌≡◌, ◌++◌, drop, map}
use Rattle.std.specs.List.{AllByRecursion}
use Rattle.av_flat.specs.Trees.{view_variable, view_system}
use Rattle.av_pipe.specs.Pipelines.{of_variables, pipelines}
use Rattle.av_pipe.specs.inner.Helping.{HasFinePieces}
use Rattle.av_pipe.proofs.helpers.all_helpers.Given as goal

-- those so far and those to come are all
abbrev pub invariant-loop-place : goal.invariant-loop-place
invariant-loop-place l = record {
  maps : AllByRecursion HasFinePieces (map view_variable (drop l.place l.vars));
  made : l.helpers ++ of_variables (view_system l.fn.flat) l.times l.place (map view_variable (drop l.place l.vars)) ≡ pipelines (view_system l.fn.flat) l.times;
}
