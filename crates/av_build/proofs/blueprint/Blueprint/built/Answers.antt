use Rattle.std.proofs.Common.{List, length, get_or, None, refl, ap, arith}
use Rattle.av_kinds.specs.Written.{LaneMade, lane_of}
use Rattle.av_build.specs.declared.blueprint.LanePlan.{LanePlan}
use Rattle.av_build.specs.inner.Lanes.{IsBuiltBy}
use Rattle.av_build.proofs.Pairwise.{element_of, next_pair, all_pairs}
use Rattle.av_build.proofs.PlansOn.{plan_on}
use Rattle.av_build.proofs.blueprint.Blueprint.built.Goals as goal

abbrev none : LanePlan
none = record { cell = record { 0 = 0 }; helper = None }

pub loop-plan-preserved : goal.loop-plan-preserved
loop-plan-preserved c =
    let b = c.args.self.now in
    let next = next_pair (λ (plan : LanePlan) (lane : LaneMade). IsBuiltBy b c.args.counter plan.cell.0 plan.helper (lane_of lane)) c.as_slice-plan-items.result.now c.loop-plan.lanes c.push.new.self c.loop-plan.plan-index none (get_or c.as_slice-plan-items.result.now c.loop-plan.plan-index none) c.in_ok-lane.field-0
    c.loop-plan-test.true refl c.loop-plan.invariant.one_each c.loop-plan.invariant.each c.in_ok-lane.ensures c.in_ok-push.ensures.ok in
    record { one_each = next.0; each = next.1 }

pub returns : goal.returns
returns c =
    let b = c.args.self.now in
    let all = all_pairs (λ (plan : LanePlan) (lane : LaneMade). IsBuiltBy b c.args.counter plan.cell.0 plan.helper (lane_of lane)) b.lanes c.as_slice-plan-items.result.now c.loop-plan.lanes c.loop-plan.plan-index c.as_slice-plan-items.ensures
    c.loop-plan.invariant.one_each c.loop-plan.auto.plan-index-end c.loop-plan-test.false c.loop-plan.invariant.each in
    record { one_each = all.0; each = all.1 }

pub lane-requires-clause-plan : goal.lane-requires-clause-plan
lane-requires-clause-plan c =
    let b = c.args.self.now in
    let n = c.loop-plan.plan-index in
    let plan = get_or c.as_slice-plan-items.result.now n none in
    let low = c.loop-plan-test.true in
    let size = ap (λ (l : List LanePlan). length l) c.as_slice-plan-items.ensures in
    plan_on b c.requires.blueprint n plan (element_of b.lanes c.as_slice-plan-items.result.now n none plan c.as_slice-plan-items.ensures (omega (arith, low, size)) refl)
