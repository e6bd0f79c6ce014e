use Rattle.std.proofs.Common.{◌≡◌, map, take}
use Rattle.av_build.specs.declared.blueprint.CellPlan.{CellPlan}
use Rattle.av_build.proofs.blueprint.Blueprint.cell_lanes.Given as goal

abbrev pub invariant-loop-plan : goal.invariant-loop-plan
invariant-loop-plan l = l.lanes ≡ map (λ (plan : CellPlan). plan.lanes) (take l.plan-index l.plan-items)
