use Rattle.std.proofs.Common.{map, take, drop}
use Rattle.av_flat.specs.Trees.{view, trees_of, view_variable}
use Rattle.av_flat.specs.Signatures.{signature}
use Rattle.av_check.specs.inner.Reachable.{reach, AreReachable}
use Rattle.av_check.specs.inner.Verdicts.{IsVerdictOfAll}
use Rattle.av_check.proofs.judge.+judge.Given as goal

-- what is known of the branches so far, and that those to come stand
abbrev pub invariant-judge_all-loop-tree : goal.invariant-judge_all-loop-tree
invariant-judge_all-loop-tree l = record {
  so_far : IsVerdictOfAll (map signature (map view_variable l.vars)) (trees_of (map view (take l.tree-index l.trees))) (reach l.under l.z) l.verdict;
  stand : AreReachable (map signature (map view_variable l.vars)) l.under (trees_of (map view (drop l.tree-index l.trees))) l.z;
}
