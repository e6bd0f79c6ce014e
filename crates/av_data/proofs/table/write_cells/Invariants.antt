use Rattle.std.proofs.Common.{take}
use Rattle.av_page.specs.Pages.{Puts}
use Rattle.av_flat.specs.Trees.{view_system}
use Rattle.av_flat.specs.Nodes.{nodes}
use Rattle.av_data.specs.Tables.{cell_lines}
use Rattle.av_data.proofs.table.write_cells.Given as goal

abbrev pub invariant-loop-k : goal.invariant-loop-k
invariant-loop-k g l =
    let S = g.K.Sink.state in
    Puts (S l.fn.sink) (S l.sink) l.fn.page l.page (cell_lines (nodes (view_system l.flat)) 0 (take l.k l.cells))
