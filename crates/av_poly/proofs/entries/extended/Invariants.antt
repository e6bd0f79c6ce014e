use Rattle.std.proofs.Common.{◌≡◌, take}
use Rattle.av_poly.proofs.entries.extended.Given as goal

abbrev pub invariant-loop-number : goal.invariant-loop-number
invariant-loop-number l = l.entries.items ≡ take l.number-index l.fixed
