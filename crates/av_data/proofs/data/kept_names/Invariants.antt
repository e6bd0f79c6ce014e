use Rattle.std.proofs.Common.{◌≡◌, take}
use Rattle.av_data.proofs.VariableNames.{var_names}
use Rattle.av_data.proofs.data.kept_names.Given as goal

abbrev pub invariant-loop-var : goal.invariant-loop-var
invariant-loop-var l = l.names ≡ take l.var-index (var_names l.vars)
