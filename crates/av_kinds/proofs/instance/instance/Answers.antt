use Rattle.std.proofs.Common.{◌≡◌, ◌∙◌, List, get_or, ap, sym}
use Rattle.std.specs.Prelude.{Some, slice_get}
use Rattle.std.proofs.lemmas.Option.{slice_get-get_or}
use Rattle.av_kinds.specs.declared.program.CellLanes.{CellLanes}
use Rattle.av_kinds.specs.Counters.{counter_name}
use Rattle.av_kinds.specs.Written.{ProgramMade, program_of}
use Rattle.av_kinds.proofs.InstanceSteps.{instance_made}
use Rattle.av_kinds.proofs.Reading.{cell_is_there, outputs_within}
use Rattle.av_kinds.proofs.instance.instance.Goals as goal

pub cell_operands-requires : goal.cell_operands-requires
cell_operands-requires c =
    let cells = c.args.program.now.cells in
    let d : CellLanes = record { first = 0; value = 0 } in
    let items : c.as_slice.result.now ≡ cells = c.as_slice.ensures ∙ ap (λ (p : ProgramMade). p.cells) c.program.view_is in
    let own = get_or c.as_slice.result.now c.args.cell d in
    let is : slice_get cells c.args.cell ≡ Some own = slice_get-get_or cells c.args.cell d c.requires.cell ∙ ap (λ (xs : List CellLanes). Some (get_or xs c.args.cell d)) (sym items) in
    let there = cell_is_there c.args.program.now c.requires.program c.args.cell own is in
    record { bounds = there.bounds; most = there.most; suit = c.requires.suit own is; there = there.there }

pub lane_outputs-requires : goal.lane_outputs-requires
lane_outputs-requires c =
    let cells = c.args.program.now.cells in
    let d : CellLanes = record { first = 0; value = 0 } in
    let items : c.as_slice.result.now ≡ cells = c.as_slice.ensures ∙ ap (λ (p : ProgramMade). p.cells) c.program.view_is in
    let own = get_or c.as_slice.result.now c.args.cell d in
    let is : slice_get cells c.args.cell ≡ Some own = slice_get-get_or cells c.args.cell d c.requires.cell ∙ ap (λ (xs : List CellLanes). Some (get_or xs c.args.cell d)) (sym items) in
    outputs_within c.args.program.now own c.args.shape.now (cell_is_there c.args.program.now c.requires.program c.args.cell own is) (c.requires.suit own is)

pub returns : goal.returns
returns c =
    let cells = c.args.program.now.cells in
    let d : CellLanes = record { first = 0; value = 0 } in
    let items : c.as_slice.result.now ≡ cells = c.as_slice.ensures ∙ ap (λ (p : ProgramMade). p.cells) c.program.view_is in
    let own = get_or c.as_slice.result.now c.args.cell d in
    let is : slice_get cells c.args.cell ≡ Some own = slice_get-get_or cells c.args.cell d c.requires.cell ∙ ap (λ (xs : List CellLanes). Some (get_or xs c.args.cell d)) (sym items) in
    λ other is_other. instance_made (program_of c.args.program.now) (counter_name c.args.counter) c.args.cell c.args.kind own other c.args.shape.now c.in_ok-numbered.field-0 c.inputs.inside.items.items c.in_ok-lane_outputs.field-0 is is_other
    c.in_ok-numbered.ensures (c.inputs.view_is ∙ c.in_ok-inputs.ensures) c.in_ok-lane_outputs.ensures
