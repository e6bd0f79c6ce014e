use Rattle.std.proofs.Common.{◌≡◌, take, map}
use Rattle.av_affine.specs.Numbers.{AtMost}
use Rattle.av_space.specs.Coordinates.{along}
use Rattle.av_stream.proofs.standing.image.Given as goal

abbrev pub invariant-loop-row : goal.invariant-loop-row
invariant-loop-row l = record {
  so_far : l.point.items ≡ along (map (take l.size) (take l.row-index l.row-items)) l.entries;
  small : AtMost 4095 l.point.items;
}
