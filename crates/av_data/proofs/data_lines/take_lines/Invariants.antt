use Rattle.std.proofs.Common.{length, ◌-◌, ◌+◌, ◌≤◌}
use Rattle.av_flat.specs.Trees.{view_system}
use Rattle.av_data.proofs.Linewise.{AreTaken}
use Rattle.av_data.proofs.data_lines.take_lines.Given as goal

abbrev pub invariant-loop-at : goal.invariant-loop-at
invariant-loop-at l = AreTaken (view_system l.flat) l.first l.bytes l.words l.line l.at × (l.at ≤ length l.bytes) × (l.line ≤ l.first + l.at)

abbrev pub decreases-loop-at : goal.decreases-loop-at
decreases-loop-at l = length l.bytes - l.at
