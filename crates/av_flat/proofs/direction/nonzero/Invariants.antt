use Rattle.std.proofs.Common.{◌≡◌, take}
use Rattle.std.specs.Prelude.{filter, not}
use Rattle.av_flat.specs.Broadcasts.{is_zero}
use Rattle.av_flat.proofs.direction.nonzero.Given as goal

abbrev pub invariant-loop-point : goal.invariant-loop-point
invariant-loop-point l = l.to.items ≡ filter (λ w. not (is_zero w)) (take l.point-index l.points)
