use Rattle.std.proofs.Common.{◌≡◌, ◌∷◌, take}
use Rattle.av_poly.proofs.entries.with_first.Given as goal

abbrev pub invariant-loop-other : goal.invariant-loop-other
invariant-loop-other l = l.entries.items ≡ l.first ∷ take l.other-index l.other-items
