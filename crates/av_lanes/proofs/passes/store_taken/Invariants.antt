use Rattle.std.proofs.Common.{ℕ, ◌<◌}
use Rattle.av_clock.proofs.Taking.{Gives}
use Rattle.av_lanes.specs.Seen.{lane}
use Rattle.av_lanes.proofs.passes.store_taken.Given as goal

abbrev pub invariant-loop-i : goal.invariant-loop-i
invariant-loop-i l = (k : ℕ) → k < 8 → Gives l.circuit (lane k l.fn.words) (lane k l.words) l.fn.stale l.stale l.fn.due l.due l.taken (lane k l.next) l.count l.i
