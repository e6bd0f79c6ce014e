use Rattle.std.proofs.Common.{◌≡◌, ◌≤◌, ◌-◌, length, take}
use Rattle.av_commands.specs.inner.Changing.{values_of}
use Rattle.av_commands.proofs.Unwaving.{AreMaking}
use Rattle.av_commands.proofs.unwaves.make_changes.Given as goal

abbrev pub invariant-loop-next : goal.invariant-loop-next
invariant-loop-next l =
    AreMaking l.changes l.first l.cycle l.next
    × (l.words ≡ values_of (length l.fn.words) (take l.next l.changes))
    × (length l.words ≡ length l.fn.words)
    × (l.next ≤ length l.changes)

abbrev pub decreases-loop-next : goal.decreases-loop-next
decreases-loop-next l = length l.changes - l.next
