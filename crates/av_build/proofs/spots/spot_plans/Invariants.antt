use Rattle.std.proofs.Common.{◌≡◌, map, take}
use Rattle.av_build.specs.inner.SpotPlans.{plan_of}
use Rattle.av_build.proofs.spots.spot_plans.Given as goal

abbrev pub invariant-loop-spot : goal.invariant-loop-spot
invariant-loop-spot l = l.plans ≡ map plan_of (take l.spot-index l.spots)
