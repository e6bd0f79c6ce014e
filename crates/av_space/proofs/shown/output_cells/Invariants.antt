use Rattle.std.proofs.Common.{◌≡◌}
use Rattle.std.specs.Prelude.{filter}
use Rattle.std.specs.List.{range_with_len}
use Rattle.av_flat.specs.Trees.{view_system}
use Rattle.av_space.specs.Ports.{is_output_cell}
use Rattle.av_space.proofs.shown.output_cells.Given as goal

abbrev pub invariant-loop-number : goal.invariant-loop-number
invariant-loop-number l = l.outputs ≡ filter (is_output_cell (view_system l.scheduled.timed.flat) l.scheduled.layout.cells) (range_with_len 0 l.number)
