use Rattle.std.proofs.Common.{◌≡◌, ◌∷◌, take}
use Rattle.av_normal.proofs.compose.prepend_map.Given as goal

abbrev pub invariant-loop-outer : goal.invariant-loop-outer
invariant-loop-outer l = l.inner ≡ l.own ∷ take l.outer-index l.under
