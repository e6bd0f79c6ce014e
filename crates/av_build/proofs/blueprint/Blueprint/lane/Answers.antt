use Rattle.std.proofs.Common.{Option, sym, subst, arith}
use Rattle.std.proofs.lemmas.Result.{IfOk-weaker}
use Rattle.av_kinds.specs.Written.{lane_of}
use Rattle.av_build.specs.declared.blueprint.HelperPlan.{HelperPlan}
use Rattle.av_build.specs.inner.Lanes.{IsPlanOn, IsBuiltBy}
use Rattle.av_build.proofs.blueprint.Blueprint.lane.Goals as goal

pub pipeline-requires-clause-helper : goal.pipeline-requires-clause-helper
pipeline-requires-clause-helper c = subst (IsPlanOn c.args.self.now c.args.plan.now.cell.0) c.in-Some.is c.requires.plan

pub returns-in-Some : goal.returns-in-Some
returns-in-Some c = IfOk-weaker c.pipeline.result _ _
    (λ lane built. subst (λ (o : Option HelperPlan). IsBuiltBy c.args.self.now c.args.counter c.args.plan.now.cell.0 o (lane_of lane)) (sym c.in-Some.is) built) c.pipeline.ensures

pub value-requires-clause-cell : goal.value-requires-clause-cell
value-requires-clause-cell c =
    let low = subst (IsPlanOn c.args.self.now c.args.plan.now.cell.0) c.in-None.is c.requires.plan in
    let many = c.requires.blueprint.plans.one_each in
    omega (arith, low, many)

pub returns-in-None : goal.returns-in-None
returns-in-None c = IfOk-weaker c.value.result _ _
    (λ lane built. subst (λ (o : Option HelperPlan). IsBuiltBy c.args.self.now c.args.counter c.args.plan.now.cell.0 o (lane_of lane)) (sym c.in-None.is) built) c.value.ensures
