use Rattle.std.proofs.Common.{ℕ, ◌<◌, List}
use Rattle.av_lanes.specs.Seen.{lane}
use Rattle.av_lanes.specs.inner.Order.{AreMoves, HaveMoved}
use Rattle.av_lanes.proofs.passes.move_others.Given as goal

abbrev pub invariant-loop-i : goal.invariant-loop-i
invariant-loop-i l = (are : AreMoves l.circuit l.moves) (k : ℕ) → k < 8 → (before : List ℕ)
    → HaveMoved l.circuit are.order before (lane k l.fn.words) l.from → HaveMoved l.circuit are.order before (lane k l.words) l.i
