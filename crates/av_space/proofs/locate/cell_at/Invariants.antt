use Rattle.std.proofs.Common.{◌≤◌, ◌-◌, length}
use Rattle.av_space.specs.declared.cells.Cell.{Cell}
use Rattle.av_space.proofs.Located.{IsBetween}
use Rattle.av_space.proofs.locate.cell_at.Given as goal

abbrev pub invariant-loop-low : goal.invariant-loop-low
invariant-loop-low l = record {
  between : IsBetween Cell l.cells (record { node = l.node.0; at = l.at }) l.low l.high;
  fits : l.high ≤ length l.cells;
}

abbrev pub decreases-loop-low : goal.decreases-loop-low
decreases-loop-low l = l.high - l.low
