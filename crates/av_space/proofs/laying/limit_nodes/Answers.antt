use Rattle.std.proofs.Common.{length, arith, sym}
use Rattle.av_flat.specs.Trees.{view_system}
use Rattle.av_flat.specs.Nodes.{nodes}
use Rattle.av_space.specs.Occupancy.{AreCells}
use Rattle.av_space.proofs.Laid.{few_cycles, all_cells}
use Rattle.av_space.proofs.laying.limit_nodes.Goals as goal

pub cell_count-requires-clause-ends : goal.cell_count-requires-clause-ends
cell_count-requires-clause-ends c = few_cycles c.args.timed.now c.args.cycles c.requires.cycles c.requires.limit

pub returns-then-nodes-gt-MOST_CELLS-clause-refused : goal.returns-then-nodes-gt-MOST_CELLS-clause-refused
returns-then-nodes-gt-MOST_CELLS-clause-refused c =
    let s = view_system c.args.timed.now.flat in
    let k = c.in_ok-count.ensures.number in
    let more = c.in_ok-count.ensures.nodes in
    let are : AreCells s c.args.placements.now k.cells = all_cells s c.args.placements.now (length (nodes s)) k.cells (omega arith) k.are in
    ((c.args.cycles, c.requires.cycles, c.requires.limit), (k.cells, record { placings = c.args.placements.now; are_placings = c.requires.placings; are_cells = are }, sym k.number), omega (arith, more, c.if-nodes-gt-MOST_CELLS.true))
