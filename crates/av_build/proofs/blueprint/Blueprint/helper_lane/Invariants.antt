use Rattle.std.proofs.Common.{◌≡◌, ℕ, ◌≤◌, ◌<◌, false, Some}
use Rattle.std.specs.Prelude.{slice_get}
use Rattle.av_build.specs.declared.blueprint.LanePlan.{LanePlan}
use Rattle.av_build.specs.inner.Blueprints.{is_of_helper}
use Rattle.av_build.proofs.blueprint.Blueprint.helper_lane.Given as goal

-- no lane before it is of the helper
abbrev pub invariant-loop-number : goal.invariant-loop-number
invariant-loop-number l = (q : ℕ) (lane : LanePlan) → l.initial.number ≤ q → q < l.number → slice_get l.self.lanes q ≡ Some lane → is_of_helper lane l.on.helper ≡ false
