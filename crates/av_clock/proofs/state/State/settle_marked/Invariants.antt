use Rattle.std.proofs.Common.{◌≡◌, ◌-◌, length}
use Rattle.av_clock.proofs.Touched.{SettlesAll}
use Rattle.av_clock.proofs.state.State.settle_marked.Given as goal

abbrev pub invariant-loop-drive : goal.invariant-loop-drive
invariant-loop-drive l =
    (l.self.circuit ≡ l.fn.self.circuit)
    × SettlesAll l.self.circuit l.fn.self.words.items l.self.words.items l.fn.self.stale l.self.stale l.self.due l.drive l.computed

abbrev pub decreases-loop-drive : goal.decreases-loop-drive
decreases-loop-drive l = length l.self.circuit.drives - l.drive
