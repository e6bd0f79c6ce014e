use Rattle.av_build.proofs.ValueModes.{AreModesTo}
use Rattle.av_build.proofs.blueprint.Blueprint.value.Given as goal

abbrev pub invariant-loop-number : goal.invariant-loop-number
invariant-loop-number l = AreModesTo l.self l.counter l.cell.0 l.number l.modes
