use Rattle.std.proofs.Common.{◌≤◌}
use Rattle.av_clock.proofs.state.State.changed.Given as goal

abbrev pub invariant-loop-flip_flop : goal.invariant-loop-flip_flop
invariant-loop-flip_flop l = l.changed ≤ l.flip_flop-index
