use Rattle.std.proofs.Common.{◌≡◌, ◌++◌, map, take}
use Rattle.av_build.specs.inner.Blueprints.{of_helper}
use Rattle.av_build.proofs.blueprint.add_cell.Given as goal

abbrev pub invariant-loop-helper : goal.invariant-loop-helper
invariant-loop-helper l = l.lanes ≡ l.fn.lanes ++ map (of_helper l.cell.0) (take l.helper-index l.helper-items)
