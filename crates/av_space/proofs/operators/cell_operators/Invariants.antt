use Rattle.std.proofs.Common.{◌≡◌, ◌<◌, ◌≤◌, ◌*◌}
use Rattle.av_flat.specs.Trees.{view_system}
use Rattle.av_space.specs.inner.Counting.{IsCountOf}
use Rattle.av_space.proofs.operators.cell_operators.Given as goal

abbrev pub invariant-loop-number : goal.invariant-loop-number
invariant-loop-number l = record {
  counted : IsCountOf (view_system l.scheduled.timed.flat) l.scheduled.layout.placements l.scheduled.layout.cells (λ u. (u.cell ≡ l.fn.cell.0) × (u.piece < l.number)) l.sum;
  most : l.sum ≤ l.number * 4294967296;
}
