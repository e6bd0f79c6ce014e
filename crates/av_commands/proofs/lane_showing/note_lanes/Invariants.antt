use Rattle.std.proofs.Common.{◌≡◌, ℕ, ◌<◌, length}
use Rattle.av_lanes.specs.Seen.{lane, carried}
use Rattle.av_commands.proofs.Watched.{mixed}
use Rattle.av_commands.proofs.lane_showing.note_lanes.Given as goal

abbrev pub invariant-loop-i : goal.invariant-loop-i
invariant-loop-i l = ((k : ℕ) → k < 8 → lane k l.rows ≡ mixed (carried k l.lanes) l.cycle l.i l.lines (lane k l.fn.rows)) × (length l.rows ≡ length l.fn.rows)
