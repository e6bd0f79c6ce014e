use Rattle.std.proofs.Common.{◌≡◌, false, map, take}
use Rattle.std.specs.List.{list_any}
use Rattle.av_flat.specs.Trees.{view_variable}
use Rattle.av_commands.specs.inner.Reported.{is_output_named}
use Rattle.av_commands.proofs.runs.names_output.Given as goal

abbrev pub invariant-loop-var : goal.invariant-loop-var
invariant-loop-var l = list_any (is_output_named l.name) (map view_variable (take l.var-index l.flat.vars)) ≡ false
