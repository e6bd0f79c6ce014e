use Rattle.std.proofs.Common.{◌≡◌, map, take}
use Rattle.av_space.specs.inner.Laying.{ranked_at}
use Rattle.av_space.proofs.ranked.in_order.Given as goal

abbrev pub invariant-loop-point : goal.invariant-loop-point
invariant-loop-point l = l.all.items ≡ map (ranked_at l.placement) (take l.point-index l.points)
