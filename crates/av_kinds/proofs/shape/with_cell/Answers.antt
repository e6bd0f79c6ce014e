use Rattle.std.proofs.Common.{◌≡◌, ◌∙◌, List, get_or, map, ap, sym}
use Rattle.std.specs.Prelude.{Some, slice_get}
use Rattle.std.proofs.lemmas.Option.{slice_get-get_or}
use Rattle.std.proofs.lemmas.Result.{IfOk-weaker}
use Rattle.av_base.proofs.Lists.{some_is}
use Rattle.av_kinds.specs.declared.program.CellLanes.{CellLanes}
use Rattle.av_kinds.specs.Programs.{lanes_of}
use Rattle.av_kinds.specs.Written.{ProgramMade, program_of}
use Rattle.av_kinds.specs.inner.Shapes.{LaneShapeMade, lane_shape_of}
use Rattle.av_kinds.specs.inner.Shaped.{lane_shapes}
use Rattle.av_kinds.proofs.Reading.{cell_is_there}
use Rattle.av_kinds.proofs.shape.with_cell.Goals as goal

pub cell_lanes-requires : goal.cell_lanes-requires
cell_lanes-requires c =
    let cells = c.args.program.now.cells in
    let d : CellLanes = record { first = 0; value = 0 } in
    let items : c.as_slice.result.now ≡ cells = c.as_slice.ensures ∙ ap (λ (p : ProgramMade). p.cells) c.program.view_is in
    let own = get_or c.as_slice.result.now c.args.cell d in
    let is : slice_get cells c.args.cell ≡ Some own = slice_get-get_or cells c.args.cell d c.requires.cell ∙ ap (λ (xs : List CellLanes). Some (get_or xs c.args.cell d)) (sym items) in
    let there = cell_is_there c.args.program.now c.requires.program c.args.cell own is in
    record { bounds = there.bounds; most = there.most }

pub returns : goal.returns
returns c =
    let P = program_of c.args.program.now in
    let before = map lane_shape_of c.args.before.now in
    let cells = c.args.program.now.cells in
    let d : CellLanes = record { first = 0; value = 0 } in
    let items : c.as_slice.result.now ≡ cells = c.as_slice.ensures ∙ ap (λ (p : ProgramMade). p.cells) c.program.view_is in
    let own = get_or c.as_slice.result.now c.args.cell d in
    let is : slice_get cells c.args.cell ≡ Some own = slice_get-get_or cells c.args.cell d c.requires.cell ∙ ap (λ (xs : List CellLanes). Some (get_or xs c.args.cell d)) (sym items) in
    IfOk-weaker c.lane_shapes.result _ _
    (λ (shapes : List LaneShapeMade) h other is_other. h ∙ ap (lane_shapes before) c.cell_lanes.ensures ∙ ap (λ (o : CellLanes). lane_shapes before (lanes_of P o)) (some_is own other (sym is ∙ is_other)))
    c.lane_shapes.ensures
