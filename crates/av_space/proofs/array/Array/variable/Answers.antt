use Rattle.std.proofs.Common.{◌≡◌, ◌∙◌, ◌<◌, List, length, sym, ap, subst, arith, get_or, Some}
use Rattle.std.specs.Prelude.{slice_get}
use Rattle.std.proofs.lemmas.Option.{slice_get-get_or}
use Rattle.av_flat.specs.declared.timed.Timed.{Timed}
use Rattle.av_flat.specs.Nodes.{nodes}
use Rattle.av_flat.specs.Trees.{view_system, view_variable}
use Rattle.av_space.specs.declared.cells.Cell.{Cell}
use Rattle.av_space.specs.Spots.{system_of, placings_of, cells_of}
use Rattle.av_space.proofs.SiteLinks.{cell_node}
use Rattle.av_space.proofs.array.Array.variable.Goals as goal

pub variable-requires : goal.variable-requires
variable-requires c =
    let a = c.args.self.now in
    let is = c.requires.array.layout in
    let l = cell_node (system_of a) (placings_of a) (cells_of a) is.are_cells c.args.cell.0 c.index-as_slice-cell.result c.requires.cell in
    let same = ap (λ (x : List Cell). (get_or x c.args.cell.0 c.index-as_slice-cell.result).node) c.as_slice.ensures in
    let n = (get_or c.as_slice.result.now c.args.cell.0 c.index-as_slice-cell.result).node in
    let low : n < length (nodes (system_of a)) = omega (arith, l, same) in
    subst (λ (t : Timed). n < length (nodes (view_system t.flat))) (sym c.requires.array.nodes) low

pub returns : goal.returns
returns c =
    let a = c.args.self.now in
    let k = c.args.cell.0 in
    let d = c.index-as_slice-cell.result in
    let cells = c.as_slice.result.now in
    let low : k < length cells = subst (λ (x : List Cell). k < length x) (sym c.as_slice.ensures) c.requires.cell in
    let at : slice_get cells k ≡ Some d = slice_get-get_or cells k d low ∙ ap Some (sym c.index-as_slice-cell.is) in
    let own = subst (λ (t : Timed). slice_get (nodes (view_system t.flat)) (get_or cells k d).node ≡ Some (view_variable c.variable.result.now)) c.requires.array.nodes c.variable.ensures.is in
    record {
      cell = d;
      is_cell = subst (λ (x : List Cell). slice_get x k ≡ Some d) c.as_slice.ensures at;
      is_variable = subst (λ (x : Cell). slice_get (nodes (system_of a)) x.node ≡ Some (view_variable c.variable.result.now)) (sym c.index-as_slice-cell.is) own;
    }
