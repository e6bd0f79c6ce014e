use Rattle.std.proofs.Common.{◌-◌, ◌≤◌, length, take}
use Rattle.av_base.specs.Outside.{Adds}
use Rattle.av_base.proofs.sink.write_all.Given as goal

abbrev pub invariant-loop-done : goal.invariant-loop-done
invariant-loop-done g l =
    Adds (g.K.Sink.state l.fn.sink).held (g.K.Sink.state l.sink).held (take l.done l.bytes)
    × (l.done ≤ length l.bytes)
    × ((g.K.Sink.state l.fn.sink).faults ≤ (g.K.Sink.state l.sink).faults)

abbrev pub decreases-loop-done : goal.decreases-loop-done
decreases-loop-done g l = length l.bytes - l.done
