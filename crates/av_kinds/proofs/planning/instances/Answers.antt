use Rattle.std.proofs.Common.{◌≡◌, ◌∙◌, ◌<◌, ℕ, List, length, map, get_or, sym, subst, ap, arith, rules}
use Rattle.std.proofs.lemmas.Option.{slice_get-get_or}
use Rattle.std.specs.Prelude.{Some, slice_get}
use Rattle.std.proofs.lemmas.Grind.{common_steps, elements}
use Rattle.av_kinds.specs.Written.{ProgramMade, program_of}
use Rattle.av_kinds.specs.Programs.{lanes_of}
use Rattle.av_kinds.specs.Names.{labels}
use Rattle.av_kinds.specs.Counters.{counter_name}
use Rattle.av_kinds.specs.inner.Shapes.{LaneShapeMade, lane_shape_of, SuitLanes}
use Rattle.av_kinds.specs.inner.Instances.{instance_by}
use Rattle.av_kinds.specs.inner.Modules.{instances_by}
use Rattle.av_kinds.proofs.PlanSteps.{shapes_seen, instance_put, cell_suits, kind_within}
use Rattle.av_kinds.proofs.planning.instances.Goals as goal

pub bounds-as_slice-number : goal.bounds-as_slice-number
bounds-as_slice-number c =
    let P = program_of c.args.program.now in
    let kinds = c.args.program.now.kinds in
    let shapes = c.args.shapes.now in
    let p = c.loop-cell.cell in
    let items : c.as_slice-number-items.result.now ≡ kinds = c.as_slice-number-items.ensures ∙ ap (λ (q : ProgramMade). q.kinds) c.program.view_is in
    let within : p < length c.as_slice-number-items.result.now = search rules in
    let below : p < length kinds = omega (arith, within, ap (λ (xs : List ℕ). length xs) items) in
    let k = get_or c.as_slice-number-items.result.now p 0 in
    let is : k ≡ get_or kinds p 0 = ap (λ (xs : List ℕ). get_or xs p 0) items in
    let small : k < length shapes = omega (arith, is, kind_within P shapes c.requires.shapes p below) in
    omega (arith, small, ap (λ (xs : List (List LaneShapeMade)). length xs) c.as_slice.ensures)

pub offset_bounds-as_slice-number : goal.offset_bounds-as_slice-number
offset_bounds-as_slice-number c =
    let P = program_of c.args.program.now in
    let kinds = c.args.program.now.kinds in
    let shapes = c.args.shapes.now in
    let p = c.loop-cell.cell in
    let items : c.as_slice-number-items.result.now ≡ kinds = c.as_slice-number-items.ensures ∙ ap (λ (q : ProgramMade). q.kinds) c.program.view_is in
    let within : p < length c.as_slice-number-items.result.now = search rules in
    let below : p < length kinds = omega (arith, within, ap (λ (xs : List ℕ). length xs) items) in
    let k = get_or c.as_slice-number-items.result.now p 0 in
    let is : k ≡ get_or kinds p 0 = ap (λ (xs : List ℕ). get_or xs p 0) items in
    let small : k < length shapes = omega (arith, is, kind_within P shapes c.requires.shapes p below) in
    let low : k < length c.as_slice.result.now = omega (arith, small, ap (λ (xs : List (List LaneShapeMade)). length xs) c.as_slice.ensures) in
    omega arith

pub instance-requires-clause-cell : goal.instance-requires-clause-cell
instance-requires-clause-cell c =
    let P = program_of c.args.program.now in
    let kinds = c.args.program.now.kinds in
    let shapes = c.args.shapes.now in
    let p = c.loop-cell.cell in
    let items : c.as_slice-number-items.result.now ≡ kinds = c.as_slice-number-items.ensures ∙ ap (λ (q : ProgramMade). q.kinds) c.program.view_is in
    let within : p < length c.as_slice-number-items.result.now = search rules in
    let below : p < length kinds = omega (arith, within, ap (λ (xs : List ℕ). length xs) items) in
    let k = get_or c.as_slice-number-items.result.now p 0 in
    let is : k ≡ get_or kinds p 0 = ap (λ (xs : List ℕ). get_or xs p 0) items in
    let small : k < length shapes = omega (arith, is, kind_within P shapes c.requires.shapes p below) in
    omega (arith, below, c.requires.program.kinds)

pub instance-requires-clause-suit : goal.instance-requires-clause-suit
instance-requires-clause-suit c =
    let P = program_of c.args.program.now in
    let kinds = c.args.program.now.kinds in
    let shapes = c.args.shapes.now in
    let p = c.loop-cell.cell in
    let items : c.as_slice-number-items.result.now ≡ kinds = c.as_slice-number-items.ensures ∙ ap (λ (q : ProgramMade). q.kinds) c.program.view_is in
    let within : p < length c.as_slice-number-items.result.now = search rules in
    let below : p < length kinds = omega (arith, within, ap (λ (xs : List ℕ). length xs) items) in
    let k = get_or c.as_slice-number-items.result.now p 0 in
    let is : k ≡ get_or kinds p 0 = ap (λ (xs : List ℕ). get_or xs p 0) items in
    let small : k < length shapes = omega (arith, is, kind_within P shapes c.requires.shapes p below) in
    let x = c.index-as_slice-number.result in
    let read : x ≡ get_or shapes k x = c.index-as_slice-number.is ∙ ap (λ (xs : List (List LaneShapeMade)). get_or xs k x) c.as_slice.ensures in
    let there : slice_get kinds p ≡ Some k = slice_get-get_or kinds p 0 below ∙ ap (λ i. Some i) (sym is) in
    λ own is_cell. subst (λ (xs : List LaneShapeMade). SuitLanes (map lane_shape_of xs) (lanes_of P own)) (sym c.as_slice-shape.ensures) (cell_suits P shapes c.requires.shapes p k own x is_cell there small read)

pub loop-cell-preserved : goal.loop-cell-preserved
loop-cell-preserved c =
    let P = program_of c.args.program.now in
    let kinds = c.args.program.now.kinds in
    let shapes = c.args.shapes.now in
    let p = c.loop-cell.cell in
    let items : c.as_slice-number-items.result.now ≡ kinds = c.as_slice-number-items.ensures ∙ ap (λ (q : ProgramMade). q.kinds) c.program.view_is in
    let within : p < length c.as_slice-number-items.result.now = search rules in
    let below : p < length kinds = omega (arith, within, ap (λ (xs : List ℕ). length xs) items) in
    let k = get_or c.as_slice-number-items.result.now p 0 in
    let is : k ≡ get_or kinds p 0 = ap (λ (xs : List ℕ). get_or xs p 0) items in
    let small : k < length shapes = omega (arith, is, kind_within P shapes c.requires.shapes p below) in
    let x = c.index-as_slice-number.result in
    let read : x ≡ get_or shapes k x = c.index-as_slice-number.is ∙ ap (λ (xs : List (List LaneShapeMade)). get_or xs k x) c.as_slice.ensures in
    instance_put c.args.counter P shapes p k x c.loop-cell.instances c.push.new.self (instances_by c.args.counter P (shapes_seen shapes) 0 P.cells P.kinds) c.in_ok-own.own
    (omega (arith, below, c.requires.program.kinds)) below is small read c.loop-cell.invariant
    (λ own is_cell. c.in_ok-own.ensures own is_cell ∙ ap (λ (xs : List LaneShapeMade). instance_by (labels P) (counter_name c.args.counter) p k own.first (map lane_shape_of xs) (lanes_of P own)) c.as_slice-shape.ensures)
    c.in_ok-push.ensures.ok

pub overflow_cast-number : goal.overflow_cast-number
overflow_cast-number c = grind (arith, elements)

pub returns : goal.returns
returns c = grind (arith, common_steps)
