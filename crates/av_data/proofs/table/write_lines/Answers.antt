use Rattle.std.proofs.Common.{List, ◌++◌, ◌∙◌, ap, subst, sym, All, length, ◌<◌}
use Rattle.std.specs.Prelude.{codes}
use Rattle.std.specs.List.{flat_map}
use Rattle.av_flat.specs.Trees.{view_system}
use Rattle.av_flat.specs.Nodes.{nodes}
use Rattle.av_net.specs.declared.design.Entry.{Entry}
use Rattle.av_space.specs.declared.cells.Cell.{Cell}
use Rattle.av_page.proofs.Putting.{Puts-more, Puts-is}
use Rattle.av_data.specs.Tables.{cell_lines, listed_line, totals_line}
use Rattle.av_data.proofs.Tabled.{of_nodes}
use Rattle.av_data.proofs.table.write_lines.Goals as goal

pub write_cells-requires : goal.write_cells-requires
write_cells-requires g c =
    let s = view_system c.args.timed.now.flat in
    subst (λ (cells : List Cell). All (λ (x : Cell). x.node < length (nodes s)) cells) (sym c.as_slice.ensures) (of_nodes s c.requires.array.placings c.args.cells.now.cells c.requires.array.cells)

pub returns : goal.returns
returns g c =
    let vs = nodes (view_system c.args.timed.now.flat) in
    let a = c.args.cells.now in
    let ins : List Entry → List _ = flat_map (listed_line (codes "in")) in
    let ats : List Entry → List _ = flat_map (listed_line (codes "at")) in
    Puts-is (Puts-more (Puts-more (Puts-more c.write_cells.ensures c.write_entries.ensures) c.write_entries-2.ensures) c.write_totals.ensures)
    (ap (λ (cells : List Cell). cell_lines vs 0 cells ++ ins c.as_slice-2.result.now ++ ats c.as_slice-3.result.now ++ totals_line a) c.as_slice.ensures
    ∙ ap (λ (es : List Entry). cell_lines vs 0 a.cells ++ ins es ++ ats c.as_slice-3.result.now ++ totals_line a) c.as_slice-2.ensures
    ∙ ap (λ (es : List Entry). cell_lines vs 0 a.cells ++ ins a.listing.ins ++ ats es ++ totals_line a) c.as_slice-3.ensures)
