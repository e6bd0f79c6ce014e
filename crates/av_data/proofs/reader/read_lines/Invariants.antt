use Rattle.std.proofs.Common.{length, ◌-◌, ◌+◌, ◌≤◌}
use Rattle.av_data.specs.Reading.{stimulus_of}
use Rattle.av_data.proofs.Turns.{Tells}
use Rattle.av_data.proofs.reader.read_lines.Given as goal

abbrev pub invariant-loop-at : goal.invariant-loop-at
invariant-loop-at l =
    Tells l.inputs l.bytes (stimulus_of l.inputs l.first l.bytes) l.cycles l.values l.line l.at
    × (l.at ≤ length l.bytes) × (l.line ≤ l.first + l.at)

abbrev pub decreases-loop-at : goal.decreases-loop-at
decreases-loop-at l = length l.bytes - l.at
