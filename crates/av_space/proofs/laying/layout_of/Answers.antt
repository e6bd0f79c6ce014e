use Rattle.std.proofs.Common.{◌≤◌, length, arith}
use Rattle.av_flat.specs.Trees.{view_system}
use Rattle.av_flat.specs.Nodes.{nodes}
use Rattle.av_space.specs.Occupancy.{AreCells}
use Rattle.av_space.specs.declared.layout.Layout.{Layout}
use Rattle.av_space.proofs.Laid.{all_cells, few_cycles, made_layout}
use Rattle.av_space.proofs.laying.layout_of.Goals as goal

pub cells_filled-requires-clause-ends : goal.cells_filled-requires-clause-ends
cells_filled-requires-clause-ends c = few_cycles c.args.timed.now c.in_ok-cycles.cycles c.in_ok-cycles.ensures.cycles c.in_ok-cycles.ensures.limit

pub returns-then-count-gt-MOST_CELLS-clause-refused : goal.returns-then-count-gt-MOST_CELLS-clause-refused
returns-then-count-gt-MOST_CELLS-clause-refused c =
    let s = view_system c.args.timed.now.flat in
    let placements = c.in_ok-placements.placements in
    let cells = c.in_ok-filled.filled.cells in
    let are : AreCells s placements cells = all_cells s placements (length (nodes s)) cells (omega arith) c.in_ok-filled.ensures.cells in (
      (c.in_ok-cycles.cycles, c.in_ok-cycles.ensures.cycles, c.in_ok-cycles.ensures.limit),
      (cells, record { placings = placements; are_placings = c.in_ok-placements.ensures; are_cells = are }, c.len-count.ensures.count),
      c.if-count-gt-MOST_CELLS.true,
    )

pub returns-clause-whole : goal.returns-clause-whole
returns-clause-whole c =
    let t = c.args.timed.now in
    let cells = c.in_ok-filled.filled.cells in
    let l : Layout = record { placements = c.in_ok-placements.placements; cells = cells; slots = c.in_ok-filled.filled.slots; cycles = c.in_ok-cycles.cycles } in
    let few : length cells ≤ 2048 = (let count = c.len-count.ensures.count in let most = c.if-count-gt-MOST_CELLS.false in omega (arith, count, most)) in
    made_layout t l c.in_ok-placements.ensures c.in_ok-cycles.ensures.cycles c.in_ok-cycles.ensures.limit (length (nodes (view_system t.flat))) (omega arith) c.in_ok-filled.ensures.cells c.in_ok-filled.ensures.slots few
