use Rattle.std.proofs.Common.{◌≡◌, ◌∙◌, ℕ, List, length, get_or, refl, sym, ap, arith, inl, inr, None}
use Rattle.std.specs.Prelude.{slice_get}
use Rattle.std.proofs.lemmas.Bool.{cases_lt}
use Rattle.std.proofs.lemmas.Grind.{elements}
use Rattle.av_base.proofs.Lists.{some_is}
use Rattle.av_space.proofs.Elements.{in_range}
use Rattle.av_build.specs.declared.blueprint.CellPlan.{CellPlan}
use Rattle.av_build.specs.declared.blueprint.LanePlan.{LanePlan}
use Rattle.av_build.specs.inner.Blueprints.{is_of_helper}
use Rattle.av_build.proofs.Pairwise.{element_of}
use Rattle.av_build.proofs.HelperSearch.{value_there, found_below, first_found}
use Rattle.av_build.proofs.blueprint.Blueprint.helper_lane.Goals as goal

abbrev none : LanePlan
none = record { cell = record { 0 = 0 }; helper = None }

pub loop-number-init : goal.loop-number-init
loop-number-init c = λ q lane le lt is_lane. absurd (omega (arith, le, lt))

pub offset_bounds-lanes-number : goal.offset_bounds-lanes-number
offset_bounds-lanes-number c =
    let b = c.args.self.now in
    let has = c.requires.helper in
    let plan = c.index-as_slice-on.result in
    let low = in_range b.cells c.args.on.cell.0 has.plan has.is_plan in
    let is = element_of b.cells c.as_slice.result.now c.args.on.cell.0 plan plan c.as_slice.ensures low c.index-as_slice-on.is in
    let value = ap (λ (x : CellPlan). x.lanes.value) (sym c.index-as_slice-on.is ∙ some_is plan has.plan (sym is ∙ has.is_plan)) in
    let there = value_there b c.requires.blueprint c.args.on.cell.0 c.args.on.helper has in
    let many = ap (λ (l : List LanePlan). length l) c.as_slice-lanes.ensures in
    let high = c.loop-number-test.true in
    let size = c.as_slice-lanes.type_inv.1 in
    omega (arith, high, value, there, many, size)

pub bounds-lanes-number : goal.bounds-lanes-number
bounds-lanes-number c =
    let b = c.args.self.now in
    let has = c.requires.helper in
    let plan = c.index-as_slice-on.result in
    let low = in_range b.cells c.args.on.cell.0 has.plan has.is_plan in
    let is = element_of b.cells c.as_slice.result.now c.args.on.cell.0 plan plan c.as_slice.ensures low c.index-as_slice-on.is in
    let value = ap (λ (x : CellPlan). x.lanes.value) (sym c.index-as_slice-on.is ∙ some_is plan has.plan (sym is ∙ has.is_plan)) in
    let there = value_there b c.requires.blueprint c.args.on.cell.0 c.args.on.helper has in
    let many = ap (λ (l : List LanePlan). length l) c.as_slice-lanes.ensures in
    let high = c.loop-number-test.true in
    omega (arith, high, value, there, many)

-- the plan of the cell is that of the helper
pub unreachable-requires : goal.unreachable-requires
unreachable-requires c =
    let b = c.args.self.now in
    let has = c.requires.helper in
    let plan = c.index-as_slice-on.result in
    let low = in_range b.cells c.args.on.cell.0 has.plan has.is_plan in
    let is = element_of b.cells c.as_slice.result.now c.args.on.cell.0 plan plan c.as_slice.ensures low c.index-as_slice-on.is in
    let same = sym c.index-as_slice-on.is ∙ some_is plan has.plan (sym is ∙ has.is_plan) in
    let end = c.loop-number-test.false in
    let value = ap (λ (x : CellPlan). x.lanes.value) same in
    let first = ap (λ (x : CellPlan). x.lanes.first) same in
    found_below b c.requires.blueprint c.args.on.cell.0 c.args.on.helper has c.loop-number.number (omega (arith, end, value)) (λ q lane le lt is_lane. c.loop-number.invariant q lane (omega (arith, le, first)) lt is_lane)

pub returns-then-is_helper : goal.returns-then-is_helper
returns-then-is_helper c =
    let b = c.args.self.now in
    let has = c.requires.helper in
    let plan = c.index-as_slice-on.result in
    let low = in_range b.cells c.args.on.cell.0 has.plan has.is_plan in
    let is = element_of b.cells c.as_slice.result.now c.args.on.cell.0 plan plan c.as_slice.ensures low c.index-as_slice-on.is in
    let same = sym c.index-as_slice-on.is ∙ some_is plan has.plan (sym is ∙ has.is_plan) in
    let value = ap (λ (x : CellPlan). x.lanes.value) same in
    let first = ap (λ (x : CellPlan). x.lanes.first) same in
    let n = c.loop-number.number in
    let from = c.loop-number.auto.number in
    let high = c.loop-number-test.true in
    let there = value_there b c.requires.blueprint c.args.on.cell.0 c.args.on.helper has in
    let lane = get_or c.as_slice-lanes.result.now n none in
    let is_lane = element_of b.lanes c.as_slice-lanes.result.now n none lane c.as_slice-lanes.ensures (omega (arith, high, value, there)) refl in
    first_found b c.requires.blueprint c.args.on.cell.0 c.args.on.helper has n lane (omega (arith, from, first)) (omega (arith, high, value)) is_lane (sym c.if-is_helper.ensures)
    (λ q other le lt is_other. c.loop-number.invariant q other (omega (arith, le, first)) lt is_other)

pub loop-number-preserved : goal.loop-number-preserved
loop-number-preserved c = λ q lane le lt is_lane.
    let b = c.args.self.now in
    let n = c.loop-number.number in
    let own = get_or c.as_slice-lanes.result.now n none in
    elim (cases_lt q n) [
      | inl l ↦ c.loop-number.invariant q lane le l is_lane
      | inr ge ↦ (
          let e : q ≡ n = omega (arith, lt, ge) in
          let r = in_range b.lanes q lane is_lane in
          let is = element_of b.lanes c.as_slice-lanes.result.now n none own c.as_slice-lanes.ensures (omega (arith, r, e)) refl in
          let same : own ≡ lane = some_is own lane (sym is ∙ ap (λ (k : ℕ). slice_get b.lanes k) (sym e) ∙ is_lane) in
          ap (λ (x : LanePlan). is_of_helper x c.args.on.helper) (sym same) ∙ sym c.if-is_helper.ensures)
    ]

pub bounds-as_slice-on-2 : goal.bounds-as_slice-on-2
bounds-as_slice-on-2 c = grind (arith, elements)

pub bounds-as_slice-on : goal.bounds-as_slice-on
bounds-as_slice-on c = grind (arith, elements)

pub offset_bounds-as_slice-on : goal.offset_bounds-as_slice-on
offset_bounds-as_slice-on c = grind (arith, elements)
