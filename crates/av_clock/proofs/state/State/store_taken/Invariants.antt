use Rattle.std.proofs.Common.{◌≡◌}
use Rattle.av_clock.proofs.Taking.{Gives}
use Rattle.av_clock.proofs.state.State.store_taken.Given as goal

abbrev pub invariant-loop-i : goal.invariant-loop-i
invariant-loop-i l =
    (l.self.circuit ≡ l.fn.self.circuit) × (l.self.taken ≡ l.fn.self.taken) × (l.self.next ≡ l.fn.self.next)
    × Gives l.fn.self.circuit l.fn.self.words.items l.self.words.items l.fn.self.stale l.self.stale l.fn.self.due l.self.due l.fn.self.taken.items l.fn.self.next.items l.count l.i
