use Rattle.std.proofs.Common.{◌≡◌, take}
use Rattle.av_lanes.specs.Seen.{lane}
use Rattle.av_commands.specs.inner.Watching.{bits_of}
use Rattle.av_commands.proofs.lane_showing.column.Given as goal

abbrev pub invariant-loop-row : goal.invariant-loop-row
invariant-loop-row l = bits_of l.words ≡ lane l.k (take l.row-index l.rows)
