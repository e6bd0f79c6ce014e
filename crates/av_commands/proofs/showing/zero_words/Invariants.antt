use Rattle.std.proofs.Common.{◌≡◌, length, All}
use Rattle.av_commands.proofs.showing.zero_words.Given as goal

abbrev pub invariant-loop : goal.invariant-loop
invariant-loop l = (length l.words ≡ l.counter) × All (λ w. w.bits ≡ 0) l.words
