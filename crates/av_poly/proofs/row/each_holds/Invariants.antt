use Rattle.std.proofs.Common.{take}
use Rattle.av_poly.specs.Points.{Holds}
use Rattle.av_poly.proofs.row.each_holds.Given as goal

abbrev pub invariant-loop-row : goal.invariant-loop-row
invariant-loop-row l = Holds (take l.row-index l.rows) l.z
