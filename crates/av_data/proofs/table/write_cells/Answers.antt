use Rattle.av_flat.specs.Trees.{view_system, view_variable}
use Rattle.av_flat.specs.Nodes.{nodes}
use Rattle.av_page.proofs.Putting.{Puts-none, Puts-more, Puts-is}
use Rattle.av_data.proofs.Tabled.{cell_more}
use Rattle.av_data.proofs.table.write_cells.Goals as goal

pub loop-k-init : goal.loop-k-init
loop-k-init g c = Puts-none _ _

pub loop-k-preserved : goal.loop-k-preserved
loop-k-preserved g c =
    Puts-is (Puts-more c.loop-k.invariant c.write_cell.ensures)
    (cell_more (nodes (view_system c.args.flat.now)) c.args.cells.now c.loop-k.k c.index-cells-k-in-loop-k.result c.index-cells-k.result (view_variable c.variable_of-var.result.now) c.loop-k-test.true c.index-cells-k-in-loop-k.is c.variable_of-var.ensures)
