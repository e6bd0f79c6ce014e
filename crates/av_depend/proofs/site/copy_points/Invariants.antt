use Rattle.std.proofs.Common.{◌≡◌, take}
use Rattle.av_depend.proofs.site.copy_points.Given as goal

abbrev pub invariant-loop-point : goal.invariant-loop-point
invariant-loop-point l = l.to ≡ take l.point-index l.points
