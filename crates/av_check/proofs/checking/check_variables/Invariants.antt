use Rattle.std.proofs.Common.{map, take, All}
use Rattle.av_flat.specs.Trees.{view_variable}
use Rattle.av_flat.specs.Signatures.{signature}
use Rattle.av_check.specs.inner.Premises.{HasNoneMiscovered}
use Rattle.av_check.proofs.checking.check_variables.Given as goal

-- no variable so far has a miscovered point
abbrev pub invariant-loop-k : goal.invariant-loop-k
invariant-loop-k l = All (HasNoneMiscovered (map signature (map view_variable l.vars))) (map view_variable (take l.k l.vars))
