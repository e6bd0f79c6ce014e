use Rattle.std.proofs.Common.{◌≡◌, drop}
use Rattle.av_flat.proofs.SignVectors.{first_in}
use Rattle.av_flat.proofs.direction.first_of.Given as goal

-- the first of those to come is the first of all
abbrev pub invariant-loop-point : goal.invariant-loop-point
invariant-loop-point l = first_in l.linear l.map (drop l.point-index l.points) ≡ first_in l.linear l.map l.points
