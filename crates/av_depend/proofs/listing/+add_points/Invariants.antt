use Rattle.std.proofs.Common.{length, get_or, pos, ◌≤ℤ◌}
use Rattle.av_depend.proofs.Listed.{HasListedTo}
use Rattle.av_depend.proofs.listing.+add_points.Given as goal

abbrev pub decreases-add_points : goal.decreases-add_points
decreases-add_points l = length l.low.now

abbrev pub invariant-loop-value : goal.invariant-loop-value
invariant-loop-value l = record {
  above : get_or l.low 0 (pos 0) ≤ℤ l.value;
  added : HasListedTo l.set l.fixed l.low l.high l.value l.initial.points l.points;
}
