use Rattle.std.proofs.Common.{◌≡◌, ◌∙◌, List, refl, sym, ap, subst, IsTrue, Some, arith}
use Rattle.std.specs.Prelude.{slice_get}
use Rattle.std.proofs.lemmas.Grind.{elements}
use Rattle.av_base.proofs.Lists.{some_is}
use Rattle.av_flat.specs.Points.{has}
use Rattle.av_space.specs.declared.spots.Site.{Site}
use Rattle.av_space.specs.declared.spots.Spot.{Spot}
use Rattle.av_space.proofs.Elements.{in_range}
use Rattle.av_kinds.specs.declared.program.Window.{Window}
use Rattle.av_kinds.specs.Counters.{count_in}
use Rattle.av_kinds.specs.Written.{work_of}
use Rattle.av_build.specs.declared.blueprint.CellPlan.{CellPlan}
use Rattle.av_build.specs.declared.windows.CounterMark.{CounterMark}
use Rattle.av_build.specs.inner.Blueprints.{seen, spots_on}
use Rattle.av_build.specs.inner.Windows.{windows_by}
use Rattle.av_build.specs.inner.Lanes.{IsValueWork}
use Rattle.av_build.specs.inner.Orders.{IsInOrder}
use Rattle.av_build.specs.inner.Programmed.{IsModeFor}
use Rattle.av_build.specs.inner.SpotPlans.{spot_by}
use Rattle.av_build.proofs.CellPieces.{plan_at, has_within, piece_at, places_at}
use Rattle.av_build.proofs.HelperPlaces.{spot_at}
use Rattle.av_build.proofs.SpotsOn.{cell_within}
use Rattle.av_build.proofs.ValueModes.{is_on, cell_points, piece_mode}
use Rattle.av_build.proofs.blueprint.Blueprint.value_mode.Goals as goal

pub in_order-requires-clause-ascend : goal.in_order-requires-clause-ascend
in_order-requires-clause-ascend c = c.slots-all.ensures.order

pub in_order-requires-clause-within : goal.in_order-requires-clause-within
in_order-requires-clause-within c = cell_within c.args.self.now c.args.counter c.requires.counter c.args.on.cell.0 c.slots-all.result.now c.slots-all.ensures

pub planned_spot-requires-clause-spot : goal.planned_spot-requires-clause-spot
planned_spot-requires-clause-spot c =
    let b = c.args.self.now in
    let is = c.requires.blueprint in
    let p = c.args.on.cell.0 in
    let k = c.args.on.number in
    let cells = c.as_slice.result.now in
    let plan = c.index-as_slice-on.result in
    let own = c.requires.piece in
    let low = in_range b.cells p own.0 own.1 in
    let here = plan_at b is p low cells plan c.as_slice.ensures c.index-as_slice-on.is in
    let within = has_within b is p low cells plan c.as_slice.ensures c.index-as_slice-on.is k own in
    let at = spot_by b.array c.index-as_slice-on-2.result in
    let is_at = piece_at b is p low cells plan c.as_slice.ensures c.index-as_slice-on.is k within c.as_slice-2.result.now c.index-as_slice-on-2.result c.as_slice-2.ensures c.index-as_slice-on-2.is at refl in
    (spot_at b.array is.array p plan.pieces (is.plans.pieces p plan here) k at is_at).2

pub marks-requires-clause-points : goal.marks-requires-clause-points
marks-requires-clause-points c =
    let b = c.args.self.now in
    let is = c.requires.blueprint in
    let p = c.args.on.cell.0 in
    let k = c.args.on.number in
    let cells = c.as_slice.result.now in
    let plan = c.index-as_slice-on.result in
    let own = c.requires.piece in
    let low = in_range b.cells p own.0 own.1 in
    let here = plan_at b is p low cells plan c.as_slice.ensures c.index-as_slice-on.is in
    let within = has_within b is p low cells plan c.as_slice.ensures c.index-as_slice-on.is k own in
    let at = c.in_ok-spot.spot in
    let is_at = piece_at b is p low cells plan c.as_slice.ensures c.index-as_slice-on.is k within c.as_slice-2.result.now c.index-as_slice-on-2.result c.as_slice-2.ensures c.index-as_slice-on-2.is at c.in_ok-spot.ensures in
    cell_points b is p plan here k at is_at c.slots-all.result.now c.slots-all.ensures

pub work-requires-clause-spot : goal.work-requires-clause-spot
work-requires-clause-spot c =
    let b = c.args.self.now in
    let is = c.requires.blueprint in
    let p = c.args.on.cell.0 in
    let k = c.args.on.number in
    let cells = c.as_slice.result.now in
    let plan = c.index-as_slice-on.result in
    let own = c.requires.piece in
    let low = in_range b.cells p own.0 own.1 in
    let here = plan_at b is p low cells plan c.as_slice.ensures c.index-as_slice-on.is in
    let within = has_within b is p low cells plan c.as_slice.ensures c.index-as_slice-on.is k own in
    let at = c.in_ok-spot.spot in
    let is_at = piece_at b is p low cells plan c.as_slice.ensures c.index-as_slice-on.is k within c.as_slice-2.result.now c.index-as_slice-on-2.result c.as_slice-2.ensures c.index-as_slice-on-2.is at c.in_ok-spot.ensures in
    let places = c.index-as_slice-on-3.result in
    let is_own = places_at b is p low cells plan c.as_slice.ensures c.index-as_slice-on.is k within c.as_slice-3.result.now places c.as_slice-3.ensures c.index-as_slice-on-3.is in
    is_on b is p plan here k at is_at c.as_slice-places.result.now (is_own ∙ ap (λ (l : List Site). Some l) (sym c.as_slice-places.ensures))

pub returns : goal.returns
returns c = λ other spot is_other is_spot.
    let b = c.args.self.now in
    let is = c.requires.blueprint in
    let p = c.args.on.cell.0 in
    let k = c.args.on.number in
    let cells = c.as_slice.result.now in
    let plan = c.index-as_slice-on.result in
    let own = c.requires.piece in
    let low = in_range b.cells p own.0 own.1 in
    let here = plan_at b is p low cells plan c.as_slice.ensures c.index-as_slice-on.is in
    let within = has_within b is p low cells plan c.as_slice.ensures c.index-as_slice-on.is k own in
    let at = c.in_ok-spot.spot in
    let is_at = piece_at b is p low cells plan c.as_slice.ensures c.index-as_slice-on.is k within c.as_slice-2.result.now c.index-as_slice-on-2.result c.as_slice-2.ensures c.index-as_slice-on-2.is at c.in_ok-spot.ensures in
    let one : at ≡ spot = some_is at spot (sym is_at ∙ ap (λ (x : CellPlan). slice_get (spots_on b.array x.pieces) k) (some_is plan other (sym here ∙ is_other)) ∙ is_spot) in
    let count = count_in c.args.counter in
    let slots = c.slots-all.result.now in
    let work = work_of c.in_ok-work.field-0 in
    let order = subst (λ l. IsInOrder count slots l) (sym c.as_slice-4.ensures) c.in_ok-order.ensures in
    let mode = piece_mode b is p plan here k at is_at slots c.slots-all.ensures count c.as_slice-4.result.now order c.in_ok-marks.marks c.in_ok-marks.ensures work in
    let windows = c.in_ok-windows.ensures ∙ ap (λ (l : List CounterMark). windows_by l) c.as_slice-5.ensures in
    let active =
    subst (λ (l : List Window). IsModeFor (seen b.array) count p (λ m z. m ≡ at.node.0) (λ m z. IsTrue (has at.piece.now.domain z)) (record { windows = l; work = work })) (sym windows) mode in
    subst (λ (x : Spot). IsValueWork b c.args.counter x work × IsModeFor (seen b.array) count p (λ m z. m ≡ x.node.0) (λ m z. IsTrue (has x.piece.now.domain z)) (record { windows = c.in_ok-windows.field-0; work = work })) one (c.in_ok-work.ensures, active)

pub slots-all-requires-clause-cell : goal.slots-all-requires-clause-cell
slots-all-requires-clause-cell c = grind (arith, elements)

pub bounds-as_slice-on-3 : goal.bounds-as_slice-on-3
bounds-as_slice-on-3 c = grind (arith, elements)

pub offset_bounds-as_slice-on-3 : goal.offset_bounds-as_slice-on-3
offset_bounds-as_slice-on-3 c = grind (arith, elements)

pub bounds-as_slice-on-2 : goal.bounds-as_slice-on-2
bounds-as_slice-on-2 c = grind (arith, elements)

pub offset_bounds-as_slice-on-2 : goal.offset_bounds-as_slice-on-2
offset_bounds-as_slice-on-2 c = grind (arith, elements)

pub bounds-as_slice-on : goal.bounds-as_slice-on
bounds-as_slice-on c = grind (arith, elements)

pub offset_bounds-as_slice-on : goal.offset_bounds-as_slice-on
offset_bounds-as_slice-on c = grind (arith, elements)
