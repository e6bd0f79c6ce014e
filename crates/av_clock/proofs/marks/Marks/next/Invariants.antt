use Rattle.std.proofs.Common.{◌-◌, ◌<◌, ◌≤◌, ℕ}
use Rattle.av_clock.specs.Marked.{IsClear}
use Rattle.av_clock.proofs.marks.Marks.next.Given as goal

abbrev pub invariant-loop-index : goal.invariant-loop-index
invariant-loop-index l = (l.from ≤ l.index) × ((k : ℕ) → l.from ≤ k → k < l.index → IsClear l.self k)

abbrev pub decreases-loop-index : goal.decreases-loop-index
decreases-loop-index l = l.count - l.index
