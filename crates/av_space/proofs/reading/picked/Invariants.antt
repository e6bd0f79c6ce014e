use Rattle.std.proofs.Common.{◌≡◌, drop}
use Rattle.av_flat.specs.Values.{picked}
use Rattle.av_space.proofs.reading.picked.Given as goal

abbrev pub invariant-loop-choice : goal.invariant-loop-choice
invariant-loop-choice l = picked (drop l.choice-index l.choices) l.point ≡ picked l.choices l.point
