use Rattle.std.proofs.Common.{◌≡◌, take}
use Rattle.av_poly.proofs.copy.copy_rows.Given as goal

abbrev pub invariant-loop-row : goal.invariant-loop-row
invariant-loop-row l = l.to ≡ take l.row-index l.rows
