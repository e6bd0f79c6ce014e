use Rattle.std.proofs.Common.{◌≡◌, take}
use Rattle.std.specs.Prelude.{filter}
use Rattle.av_flat.specs.Broadcasts.{stays}
use Rattle.av_flat.proofs.direction.staying.Given as goal

abbrev pub invariant-loop-point : goal.invariant-loop-point
invariant-loop-point l = l.to ≡ filter (stays l.fn.map) (take l.point-index l.points)
