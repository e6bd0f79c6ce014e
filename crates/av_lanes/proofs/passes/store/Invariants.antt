use Rattle.std.proofs.Common.{ℕ, ◌<◌}
use Rattle.av_clock.proofs.Edges.{Stores}
use Rattle.av_lanes.specs.Seen.{lane}
use Rattle.av_lanes.proofs.passes.store.Given as goal

abbrev pub invariant-loop-i : goal.invariant-loop-i
invariant-loop-i l = (k : ℕ) → k < 8 → Stores l.circuit (lane k l.fn.words) (lane k l.words) (lane k l.next) l.i
