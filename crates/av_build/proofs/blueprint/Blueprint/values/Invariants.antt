use Rattle.std.proofs.Common.{◌≡◌, map, take}
use Rattle.av_build.specs.inner.Blueprints.{lanes_of}
use Rattle.av_build.proofs.blueprint.Blueprint.values.Given as goal

abbrev pub invariant-loop-cell : goal.invariant-loop-cell
invariant-loop-cell l = l.lanes ≡ map (lanes_of l.self.cells).of_value (take l.cell-index l.cells)
