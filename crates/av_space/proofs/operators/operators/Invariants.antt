use Rattle.std.proofs.Common.{◌<◌, ◌≤◌, ◌*◌, ◌^◌}
use Rattle.av_flat.specs.Trees.{view_system}
use Rattle.av_space.specs.inner.Counting.{IsCountOf}
use Rattle.av_space.proofs.operators.operators.Given as goal

abbrev pub invariant-loop-cell : goal.invariant-loop-cell
invariant-loop-cell l = record {
  counted : IsCountOf (view_system l.scheduled.timed.flat) l.scheduled.layout.placements l.scheduled.layout.cells (λ u. u.cell < l.cell) l.sum;
  most : l.sum ≤ l.cell * 2 ^ 96;
}
