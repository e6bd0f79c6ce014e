use Rattle.std.proofs.Common.{◌≡◌, length}
use Rattle.av_kinds.specs.Written.{LaneMade, lane_of}
use Rattle.av_build.specs.declared.blueprint.LanePlan.{LanePlan}
use Rattle.av_build.specs.inner.Lanes.{IsBuiltBy}
use Rattle.av_build.proofs.Pairwise.{ArePairs}
use Rattle.av_build.proofs.blueprint.Blueprint.built.Given as goal

abbrev pub invariant-loop-plan : goal.invariant-loop-plan
invariant-loop-plan l = record {
  one_each : length l.lanes ≡ l.plan-index;
  each : ArePairs (λ (plan : LanePlan) (lane : LaneMade). IsBuiltBy l.self l.counter plan.cell.0 plan.helper (lane_of lane)) l.plan-items l.lanes;
}
