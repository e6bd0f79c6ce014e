use Rattle.av_build.specs.inner.Blueprints.{AreCellPlans}
use Rattle.av_build.proofs.blueprint.cell_plans.Given as goal

abbrev pub invariant-loop-cell : goal.invariant-loop-cell
invariant-loop-cell l = AreCellPlans l.array l.cell l.cells l.lanes
