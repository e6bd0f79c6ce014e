use Rattle.std.proofs.Common.{◌≡◌, take}
use Rattle.av_poly.proofs.entries.first_entries.Given as goal

abbrev pub invariant-loop-k : goal.invariant-loop-k
invariant-loop-k l = l.entries.items ≡ take l.k l.numbers
