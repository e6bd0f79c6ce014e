use Rattle.std.proofs.Common.{ℕ, ◌<◌, ◌-◌, length}
use Rattle.av_clock.proofs.Held.{SettlesMarked}
use Rattle.av_lanes.specs.Seen.{lane}
use Rattle.av_lanes.proofs.passes.settle_marked.Given as goal

abbrev pub invariant-loop-drive : goal.invariant-loop-drive
invariant-loop-drive l = (k : ℕ) → k < 8 → SettlesMarked l.circuit (lane k l.fn.words) (lane k l.words) l.stale l.due l.drive l.computed

abbrev pub decreases-loop-drive : goal.decreases-loop-drive
decreases-loop-drive l = length l.circuit.drives - l.drive
