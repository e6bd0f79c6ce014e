use Rattle.std.proofs.Common.{◌≡◌, ◌∙◌, ◌<◌, [], ℕ, List, ap, arith, get_or, map, length, sym}
use Rattle.std.specs.Prelude.{Some, slice_get}
use Rattle.std.proofs.lemmas.Option.{get_or_from_slice_get}
use Rattle.av_kinds.specs.Programs.{lanes_of}
use Rattle.av_kinds.specs.Written.{ProgramMade, program_of}
use Rattle.av_kinds.specs.inner.Shapes.{LaneShapeMade, lane_shape_of}
use Rattle.av_kinds.specs.inner.Shaped.{lane_shapes, shapes_by}
use Rattle.av_kinds.proofs.ShapeSteps.{cell_put, taken_cell, passed_cell}
use Rattle.av_kinds.proofs.shape.whole_shape.Goals.{then-kinds-cell+in_ok-shapes, else-kinds-cell}
use Rattle.av_kinds.proofs.shape.whole_shape.Goals as goal

pub loop-cell-preserved : goal.loop-cell-preserved
loop-cell-preserved c =
    let P = program_of c.args.program.now in
    let k = c.loop-cell.cell in
    let kind = c.args.kind in
    let kinds = c.args.program.now.kinds in
    let old = map lane_shape_of c.loop-cell.shapes in
    let next = map lane_shape_of c.if-kinds-cell.shapes in
    let whole = shapes_by P kind [] P.cells P.kinds in
    let items : c.as_slice-kinds.result.now ≡ kinds = c.as_slice-kinds.ensures ∙ ap (λ (p : ProgramMade). p.kinds) c.program.view_is in
    let within : k < length kinds = omega (arith, c.loop-cell-test.true, ap (λ (xs : List ℕ). length xs) items) in
    let below : k < length P.cells = omega (arith, within, c.requires.kinds) in
    let read : (of : ℕ) → slice_get kinds k ≡ Some of → get_or c.as_slice-kinds.result.now k 0 ≡ of = λ of is_kind. ap (λ (xs : List ℕ). get_or xs k 0) items ∙ get_or_from_slice_get kinds k of 0 is_kind in
    elim c.if-kinds-cell.branch [
      | then-kinds-cell+in_ok-shapes w ↦ cell_put P kind k old next whole below within c.loop-cell.invariant
          (λ own of is_cell is_kind. ap (map lane_shape_of) w.shapes-is ∙ w.in_ok-shapes.ensures own is_cell ∙ ap (λ (xs : List LaneShapeMade). lane_shapes (map lane_shape_of xs) (lanes_of P own)) w.as_slice.ensures
          ∙ taken_cell P kind old own of (sym (read of is_kind) ∙ w.if-kinds-cell.true))
      | else-kinds-cell w ↦ cell_put P kind k old next whole below within c.loop-cell.invariant
          (λ own of is_cell is_kind. ap (map lane_shape_of) w.shapes-is ∙ passed_cell P kind old own of (λ e. w.if-kinds-cell.false (read of is_kind ∙ e)))
    ]
