use Rattle.std.proofs.Common.{◌≡◌}
use Rattle.av_testing.proofs.beside.present_in_lanes.Given as goal

abbrev pub invariant-loop-port : goal.invariant-loop-port
invariant-loop-port l = l.lanes.of ≡ l.of
