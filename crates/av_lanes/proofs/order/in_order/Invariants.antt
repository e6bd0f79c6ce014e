use Rattle.std.proofs.Common.{◌≡◌, map, take, get_or}
use Rattle.av_clock.proofs.Edges.{no_flip_flop}
use Rattle.av_lanes.proofs.order.in_order.Given as goal

abbrev pub invariant-loop-step : goal.invariant-loop-step
invariant-loop-step l = l.moves.items ≡ map (λ k. get_or l.flip_flops k no_flip_flop) (take l.step-index l.order)
