use Rattle.std.proofs.Common.{◌≡◌, take}
use Rattle.av_data.proofs.word_map.entries_of.Given as goal

abbrev pub invariant-loop-number : goal.invariant-loop-number
invariant-loop-number l = l.entries.items ≡ take l.number-index l.numbers
