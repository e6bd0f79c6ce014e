-- Each plan of a lane says what is there.
use Rattle.std.proofs.Common.{◌≡◌, ℕ, ◌+◌, inl, inr, List, sym, ap, subst, ◌∙◌, arith, Some}
use Rattle.std.specs.Prelude.{slice_get}
use Rattle.av_space.proofs.Elements.{in_range}
use Rattle.av_build.specs.declared.blueprint.Blueprint.{Blueprint}
use Rattle.av_build.specs.declared.blueprint.LanePlan.{LanePlan}
use Rattle.av_build.specs.inner.Blueprints.{IsBlueprint}
use Rattle.av_build.specs.inner.Lanes.{IsPlanOn}
use Rattle.av_build.proofs.BlueprintLemmas.{own_cases, cell_of_lane}

pub plan_on : (b : Blueprint) → IsBlueprint b → (q : ℕ) (lane : LanePlan) → slice_get b.lanes q ≡ Some lane → IsPlanOn b lane.cell.0 lane.helper
plan_on b is q lane e =
    let x = cell_of_lane 0 0 b.cells is.plans.numbered q lane (ap (λ (l : List LanePlan). slice_get l q) (sym is.plans.lanes_are) ∙ e) in
    let number : x.index ≡ 0 + x.index = omega arith in
    let here = ap (λ (k : ℕ). slice_get b.cells k) (sym number) ∙ x.is_plan in
    elim (own_cases (0 + x.index) x.plan.pieces x.place lane x.is_lane) [
      | inl y ↦ subst (λ (l : LanePlan). IsPlanOn b l.cell.0 l.helper) y.2 (record { plan = x.plan; is_plan = here; index = x.place; is_helper = y.1 })
      | inr y ↦ subst (λ (l : LanePlan). IsPlanOn b l.cell.0 l.helper) y.1 (in_range b.cells (0 + x.index) x.plan here)
    ]
