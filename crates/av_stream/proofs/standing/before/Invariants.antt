use Rattle.std.proofs.Common.{◌≡◌, ◌∷◌, take}
use Rattle.av_stream.proofs.standing.before.Given as goal

abbrev pub invariant-loop-coordinate : goal.invariant-loop-coordinate
invariant-loop-coordinate l = l.entries.items ≡ l.number ∷ take l.coordinate-index l.at
