use Rattle.std.proofs.Common.{◌≡◌, take}
use Rattle.std.specs.Prelude.{filter}
use Rattle.av_flat.specs.Points.{has}
use Rattle.av_depend.proofs.listing.points_within.Given as goal

abbrev pub invariant-loop-point : goal.invariant-loop-point
invariant-loop-point l = l.to ≡ filter (has l.set) (take l.point-index l.points)
