use Rattle.std.proofs.Common.{◌≡◌}
use Rattle.av_array_tests.proofs.streams.clocked.words.Given as goal

abbrev pub invariant-loop-presented : goal.invariant-loop-presented
invariant-loop-presented l = l.clock.of ≡ l.of
