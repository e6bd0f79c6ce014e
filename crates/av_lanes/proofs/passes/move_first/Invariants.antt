use Rattle.std.proofs.Common.{ℕ, ◌<◌}
use Rattle.av_lanes.specs.Seen.{lane}
use Rattle.av_lanes.specs.inner.Order.{AreMoves, HaveMoved}
use Rattle.av_lanes.proofs.passes.move_first.Given as goal

abbrev pub invariant-loop-transfer : goal.invariant-loop-transfer
invariant-loop-transfer l = (are : AreMoves l.circuit l.moves) (k : ℕ) → k < 8 → HaveMoved l.circuit are.order (lane k l.fn.words) (lane k l.words) l.transfer-index
