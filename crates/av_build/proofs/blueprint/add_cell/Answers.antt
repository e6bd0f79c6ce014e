use Rattle.std.proofs.Common.{◌∙◌, ◌++◌, List, length, map, take, ap, arith}
use Rattle.std.proofs.lemmas.Grind.{common_steps}
use Rattle.av_build.specs.declared.blueprint.HelperPlan.{HelperPlan}
use Rattle.av_build.specs.declared.blueprint.LanePlan.{LanePlan}
use Rattle.av_build.specs.inner.Blueprints.{of_helper}
use Rattle.av_build.proofs.BlueprintSteps.{whole_cell}
use Rattle.av_build.proofs.blueprint.add_cell.Goals as goal

pub returns-clause-value : goal.returns-clause-value
returns-clause-value c =
    let helpers = c.in_ok-helpers.helpers in
    let n = c.loop-helper.helper-index in
    let end = c.loop-helper-test.false in
    let many = ap (λ (l : List HelperPlan). length l) c.as_slice-helper-items.ensures in
    let whole = whole_cell c.args.cell.0 c.in_ok-pieces.pieces helpers c.args.lanes.now c.loop-helper.lanes c.push-2.new.self n c.in_ok-helpers.ensures (omega (arith, end, many))
    (c.loop-helper.invariant ∙ ap (λ (l : List HelperPlan). c.args.lanes.now ++ map (of_helper c.args.cell.0) (take n l)) c.as_slice-helper-items.ensures) c.in_ok-push-2.ensures.ok in
    ap (λ (l : List LanePlan). length l) c.as_slice-value.ensures ∙ whole.1

pub returns-clause-lanes : goal.returns-clause-lanes
returns-clause-lanes c =
    let helpers = c.in_ok-helpers.helpers in
    let n = c.loop-helper.helper-index in
    let end = c.loop-helper-test.false in
    let many = ap (λ (l : List HelperPlan). length l) c.as_slice-helper-items.ensures in
    let whole = whole_cell c.args.cell.0 c.in_ok-pieces.pieces helpers c.args.lanes.now c.loop-helper.lanes c.push-2.new.self n c.in_ok-helpers.ensures (omega (arith, end, many))
    (c.loop-helper.invariant ∙ ap (λ (l : List HelperPlan). c.args.lanes.now ++ map (of_helper c.args.cell.0) (take n l)) c.as_slice-helper-items.ensures) c.in_ok-push-2.ensures.ok in
    whole.0

pub loop-helper-preserved : goal.loop-helper-preserved
loop-helper-preserved c = grind (arith, common_steps)

pub returns-clause-pieces : goal.returns-clause-pieces
returns-clause-pieces c = grind (arith, common_steps)

pub returns-clause-first : goal.returns-clause-first
returns-clause-first c = grind (arith, common_steps)
