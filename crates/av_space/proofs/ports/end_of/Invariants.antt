use Rattle.std.proofs.Common.{◌≡◌, ℕ, ◌<◌, ◌≤◌, get_or}
use Rattle.av_space.specs.declared.cells.Cell.{Cell}
use Rattle.av_space.proofs.ports.end_of.Given as goal

abbrev pub invariant-loop-number : goal.invariant-loop-number
invariant-loop-number l = (k : ℕ) (d : Cell) → l.first ≤ k → k < l.number → (get_or l.cells k d).node ≡ l.node.0
