use Rattle.std.proofs.Common.{◌≡◌}
use Rattle.av_testing.proofs.beside.follows_a_clock.Given as goal

abbrev pub invariant-loop-cycle : goal.invariant-loop-cycle
invariant-loop-cycle l = (l.lanes.of ≡ l.of) × (l.clock.of ≡ l.of)
