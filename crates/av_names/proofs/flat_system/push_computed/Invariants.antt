use Rattle.std.proofs.Common.{◌≡◌, ◌++◌, map, take}
use Rattle.av_flat.specs.Trees as flat
use Rattle.av_names.specs.inner.Building.{instance_in}
use Rattle.av_names.specs.Flattened as rules
use Rattle.av_names.proofs.flat_system.push_computed.Given as goal

abbrev pub invariant-loop-variable : goal.invariant-loop-variable
invariant-loop-variable l =
    map flat.view_variable l.to ≡ map flat.view_variable l.fn.to ++ map (rules.computed_of (instance_in l.names.tables) l.kind) (take l.variable-index l.variables)
