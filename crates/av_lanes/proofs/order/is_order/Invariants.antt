use Rattle.av_lanes.proofs.Ordering.{Tests}
use Rattle.av_lanes.proofs.order.is_order.Given as goal

abbrev pub invariant-loop-i : goal.invariant-loop-i
invariant-loop-i l = Tests l.circuit l.order l.stored l.i
