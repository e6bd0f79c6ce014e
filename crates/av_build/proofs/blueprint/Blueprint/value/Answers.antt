use Rattle.std.proofs.Common.{◌≡◌, ◌<◌, List, length, map, get_or, refl, sym, ap, subst, arith}
use Rattle.std.proofs.lemmas.List.{length-map}
use Rattle.av_kinds.specs.Written.{mode_of, lane_of}
use Rattle.av_build.specs.declared.spots.SpotPlan.{SpotPlan}
use Rattle.av_build.specs.inner.Blueprints.{spots_on}
use Rattle.av_build.specs.inner.SpotPlans.{spot_by}
use Rattle.av_build.proofs.CellPieces.{plan_at, spots_are, many_spots, piece_at}
use Rattle.av_build.proofs.CellUses.{some_spot}
use Rattle.av_build.proofs.SeenArray.{arranged_seen, one_seen}
use Rattle.av_build.proofs.ValueLanes.{value_built}
use Rattle.av_build.proofs.ValueModes.{AreModesTo, no_modes, mode_more, each_mode}
use Rattle.av_build.proofs.blueprint.Blueprint.value.Goals as goal

pub bounds-spots-0 : goal.bounds-spots-0
bounds-spots-0 c =
    let b = c.args.self.now in
    let is = c.requires.blueprint in
    let p = c.args.cell.0 in
    let cells = c.as_slice.result.now in
    let plan = c.index-as_slice-cell.result in
    let many = is.plans.one_each in
    let cell = c.requires.cell in
    let low : p < length b.cells = omega (arith, many, cell) in
    let here = plan_at b is p low cells plan c.as_slice.ensures c.index-as_slice-cell.is in
    let some = some_spot b.array is.array p c.requires.cell (spots_on b.array plan.pieces) (is.plans.pieces p plan here).spots in
    let same = ap (λ (l : List SpotPlan). length l) (spots_are b is p low cells plan c.as_slice.ensures c.index-as_slice-cell.is c.as_slice-spots.result.now c.as_slice-spots.ensures) in
    let planned = many_spots b is p low cells plan c.as_slice.ensures c.index-as_slice-cell.is in
    omega (arith, some, same, planned)

pub bounds-spots-0-2 : goal.bounds-spots-0-2
bounds-spots-0-2 c =
    let b = c.args.self.now in
    let is = c.requires.blueprint in
    let p = c.args.cell.0 in
    let cells = c.as_slice.result.now in
    let plan = c.index-as_slice-cell.result in
    let many = is.plans.one_each in
    let cell = c.requires.cell in
    let low : p < length b.cells = omega (arith, many, cell) in
    let here = plan_at b is p low cells plan c.as_slice.ensures c.index-as_slice-cell.is in
    let some = some_spot b.array is.array p c.requires.cell (spots_on b.array plan.pieces) (is.plans.pieces p plan here).spots in
    let same = ap (λ (l : List SpotPlan). length l) (spots_are b is p low cells plan c.as_slice.ensures c.index-as_slice-cell.is c.as_slice-spots.result.now c.as_slice-spots.ensures) in
    let planned = many_spots b is p low cells plan c.as_slice.ensures c.index-as_slice-cell.is in
    omega (arith, some, same, planned)

pub value_mode-requires-clause-piece : goal.value_mode-requires-clause-piece
value_mode-requires-clause-piece c =
    let b = c.args.self.now in
    let is = c.requires.blueprint in
    let p = c.args.cell.0 in
    let cells = c.as_slice.result.now in
    let plan = c.index-as_slice-cell.result in
    let many = is.plans.one_each in
    let cell = c.requires.cell in
    let low : p < length b.cells = omega (arith, many, cell) in
    let same = ap (λ (l : List SpotPlan). length l) (spots_are b is p low cells plan c.as_slice.ensures c.index-as_slice-cell.is c.as_slice-spots.result.now c.as_slice-spots.ensures) in
    let test = c.loop-number-test.true in
    (plan, plan_at b is p low cells plan c.as_slice.ensures c.index-as_slice-cell.is, omega (arith, test, same))

pub loop-number-init : goal.loop-number-init
loop-number-init c = subst (AreModesTo c.args.self.now c.args.counter c.args.cell.0 0) (sym c.new-modes.ensures) (no_modes c.args.self.now c.args.counter c.args.cell.0)

pub loop-number-preserved : goal.loop-number-preserved
loop-number-preserved c = mode_more c.args.self.now c.args.counter c.args.cell.0 c.loop-number.number c.loop-number.modes c.push.new.self c.in_ok-value_mode.field-0 c.loop-number.invariant c.in_ok-value_mode.ensures c.in_ok-push.ensures.ok

pub returns : goal.returns
returns c =
    let b = c.args.self.now in
    let is = c.requires.blueprint in
    let p = c.args.cell.0 in
    let cells = c.as_slice.result.now in
    let plan = c.index-as_slice-cell.result in
    let many = is.plans.one_each in
    let cell = c.requires.cell in
    let low : p < length b.cells = omega (arith, many, cell) in
    let spots = c.as_slice-spots.result.now in
    let is_plan = plan_at b is p low cells plan c.as_slice.ensures c.index-as_slice-cell.is in
    let some = some_spot b.array is.array p c.requires.cell (spots_on b.array plan.pieces) (is.plans.pieces p plan is_plan).spots in
    let first = c.index-spots-0.result in
    let planned = many_spots b is p low cells plan c.as_slice.ensures c.index-as_slice-cell.is in
    let is_first = piece_at b is p low cells plan c.as_slice.ensures c.index-as_slice-cell.is 0 (omega (arith, some, planned)) spots first c.as_slice-spots.ensures c.index-spots-0.is (spot_by b.array first) refl in
    let size = ap (λ (l : List SpotPlan). length l) (spots_are b is p low cells plan c.as_slice.ensures c.index-as_slice-cell.is spots c.as_slice-spots.ensures) in
    let n = c.loop-number.number in
    let made = c.loop-number.modes in
    let end = c.loop-number.auto.number-end in
    let test = c.loop-number-test.false in
    let one = c.loop-number.invariant.one_each in
    let mapped = length-map made mode_of in
    let all : length (map mode_of made) ≡ length (spots_on b.array plan.pieces) = omega (arith, size, end, test, one, mapped, planned) in
    value_built b is c.args.counter c.requires.counter (arranged_seen b.array is.array) (one_seen b.array is.array) p plan is_plan (map mode_of made) all
    (each_mode b c.args.counter p n made c.loop-number.invariant) (spot_by b.array first) is_first
    (lane_of (record { home = p; rank = 0; width = (get_or spots 0 first).var.now.width; modes = made; length = c.line_length.result })) refl refl (ap (λ (x : SpotPlan). x.var.now.width.bits) (sym c.index-spots-0.is)) refl c.line_length.ensures
