use Rattle.std.proofs.Common.{◌≡◌, ◌+◌, ◌≤◌, length}
use Rattle.av_base.specs.Outside.{Takes}
use Rattle.av_base.proofs.source.read_all.Given as goal

abbrev pub invariant-loop-bytes : goal.invariant-loop-bytes
invariant-loop-bytes g l =
    Takes (g.S.Source.left l.fn.source) (g.S.Source.left l.source) l.bytes
    × (length l.bytes + l.room ≡ l.limit)
    × (g.S.Source.faults l.fn.source ≤ g.S.Source.faults l.source)

abbrev pub decreases-loop-bytes : goal.decreases-loop-bytes
decreases-loop-bytes g l = l.room
