use Rattle.std.proofs.Common.{ℕ, ◌<◌, map}
use Rattle.av_clock.proofs.Computing.{Computes}
use Rattle.av_lanes.specs.Seen.{lane}
use Rattle.av_lanes.specs.inner.Forms.{assignment_of}
use Rattle.av_lanes.proofs.passes.settle.Given as goal

abbrev pub invariant-loop-drive : goal.invariant-loop-drive
invariant-loop-drive l = (k : ℕ) → k < 8 → Computes l.circuit (map assignment_of l.drives) (lane k l.fn.words) (lane k l.words) l.drive-index
