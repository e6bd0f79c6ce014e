use Rattle.std.proofs.Common.{◌≡◌, ◌++◌, drop}
use Rattle.av_space.proofs.mapping.copied_cells.Given as goal

abbrev pub invariant-loop-cell : goal.invariant-loop-cell
invariant-loop-cell l = l.copy ++ drop l.cell-index l.cells ≡ l.cells
