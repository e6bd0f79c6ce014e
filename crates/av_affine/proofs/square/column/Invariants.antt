use Rattle.std.proofs.Common.{◌≡◌, pos, take, map, get_or}
use Rattle.av_affine.proofs.square.column.Given as goal

abbrev pub invariant-loop-row : goal.invariant-loop-row
invariant-loop-row l = l.entries.items ≡ map (λ row. get_or row l.index (pos 0)) (take l.row-index l.row-items)
