use Rattle.std.proofs.Common.{◌≡◌, take}
use Rattle.av_space.specs.Coordinates.{along}
use Rattle.av_space.proofs.placement.Placement.coordinates.Given as goal

abbrev pub invariant-loop-row : goal.invariant-loop-row
invariant-loop-row l = l.entries.items ≡ along (take l.row-index l.row-items) l.z
