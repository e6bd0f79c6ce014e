use Rattle.std.proofs.Common.{◌≤◌}
use Rattle.av_lanes.proofs.passes.changing.Given as goal

abbrev pub invariant-loop-i : goal.invariant-loop-i
invariant-loop-i l = l.changing ≤ l.i
