use Rattle.std.proofs.Common.{◌≡◌, replicate}
use Rattle.av_wave.proofs.feed.zeros.Given as goal

abbrev pub invariant-loop : goal.invariant-loop
invariant-loop l = l.words ≡ replicate l.counter 0
