-- The lane of a helper on a cell is the first one that is of the helper.
use Rattle.std.proofs.Common.{◌≡◌, ℕ, zero, suc, ◌+◌, ◌-◌, ◌<◌, ◌≤◌, List, [], ◌∷◌, length, refl, sym, ap, subst, ◌∙◌, arith, true, false, Option, Some, None}
use Rattle.std.specs.Prelude.{slice_get, nat_eq}
use Rattle.av_base.proofs.Lists.{some_is}
use Rattle.av_base.proofs.Pieces.{same_eq}
use Rattle.av_space.proofs.Elements.{in_range}
use Rattle.av_space.proofs.Helpers.{equal}
use Rattle.av_build.specs.declared.blueprint.Blueprint.{Blueprint}
use Rattle.av_build.specs.declared.blueprint.CellPlan.{CellPlan}
use Rattle.av_build.specs.declared.blueprint.HelperPlan.{HelperPlan}
use Rattle.av_build.specs.declared.blueprint.LanePlan.{LanePlan}
use Rattle.av_build.specs.inner.Blueprints.{helpers_on, of_helper, is_of_helper, IsBlueprint, HasHelper, helper_place, helper_in, lanes_of}
use Rattle.av_build.proofs.BlueprintLemmas.{helper_lane_at, value_lane_at, lane_there, value_of, place_found, place_is}

module _ (b : Blueprint) (is : IsBlueprint b) (p j : ℕ) (has : HasHelper b p j) where
  abbrev plan : CellPlan
  plan = has.plan

  value_is : plan.lanes.value ≡ plan.lanes.first + length (helpers_on plan.pieces)
  value_is = value_of 0 b.cells is.plans.numbered p plan has.is_plan

  -- the lanes of the cell's helpers
  lane_at : (i : ℕ) (h : HelperPlan) → slice_get (helpers_on plan.pieces) i ≡ Some h → slice_get b.lanes (plan.lanes.first + i) ≡ Some (of_helper p h)
  lane_at i h e =
      let there = lane_there 0 0 b.cells is.plans.numbered p p plan (omega arith) has.is_plan i (of_helper p h) (helper_lane_at p plan.pieces i h e) (plan.lanes.first + i) (omega arith) in
      ap (λ (l : List LanePlan). slice_get l (plan.lanes.first + i)) is.plans.lanes_are ∙ there

  -- the lane of the cell's value is there
  pub value_there : plan.lanes.value < length b.lanes
  value_there =
      let value : plan.lanes.value ≡ plan.lanes.first + length (helpers_on plan.pieces) = value_is in
      let there = lane_there 0 0 b.cells is.plans.numbered p p plan (omega arith) has.is_plan (length (helpers_on plan.pieces)) (record { cell = record { 0 = p }; helper = None }) (value_lane_at p plan.pieces) plan.lanes.value (omega (arith, value)) in
      in_range b.lanes plan.lanes.value (record { cell = record { 0 = p }; helper = None }) (ap (λ (l : List LanePlan). slice_get l plan.lanes.value) is.plans.lanes_are ∙ there)

  -- there is one
  pub found_below : (n : ℕ) → plan.lanes.value ≤ n → ((q : ℕ) (lane : LanePlan) → plan.lanes.first ≤ q → q < n → slice_get b.lanes q ≡ Some lane → is_of_helper lane j ≡ false) → ⊥
  found_below n end none =
      let low = in_range (helpers_on plan.pieces) has.index has.helper has.is_helper in
      let number = value_is in
      let fails = none (plan.lanes.first + has.index) (of_helper p has.helper) (omega arith) (omega (arith, low, number, end)) (lane_at has.index has.helper has.is_helper) in
      let holds : nat_eq has.helper.number j ≡ true = ap (λ (n : ℕ). nat_eq n j) has.number ∙ same_eq j in
      absurd (let both = sym fails ∙ holds in cc)

  -- the first one is that of the helper
  pub first_found : (n : ℕ) (lane : LanePlan) → plan.lanes.first ≤ n → n < plan.lanes.value → slice_get b.lanes n ≡ Some lane → is_of_helper lane j ≡ true
      → ((q : ℕ) (other : LanePlan) → plan.lanes.first ≤ q → q < n → slice_get b.lanes q ≡ Some other → is_of_helper other j ≡ false) → n ≡ (lanes_of b.cells).of_helper j p
  first_found n lane low high is_lane holds none =
      let number = value_is in
      let i = n - plan.lanes.first in
      let helper = there_is_one (helpers_on plan.pieces) i (omega (arith, low, high, number)) in
      let at : plan.lanes.first + i ≡ n = omega (arith, low) in
      let own : slice_get b.lanes n ≡ Some (of_helper p helper.0) = subst (λ (k : ℕ). slice_get b.lanes k ≡ Some (of_helper p helper.0)) at (lane_at i helper.0 helper.1) in
      let same : of_helper p helper.0 ≡ lane = some_is (of_helper p helper.0) lane (sym own ∙ is_lane) in
      let same_number : helper.0.number ≡ j = equal helper.0.number j (ap (λ (l : LanePlan). is_of_helper l j) same ∙ holds) in
      let place : helper_place j (helpers_on plan.pieces) ≡ i = place_found j (helpers_on plan.pieces) i helper.0 helper.1 same_number (λ k g lt is_g e. (
      let fails = none (plan.lanes.first + k) (of_helper p g) (omega arith) (omega (arith, lt, low)) (lane_at k g is_g) in
      let also : nat_eq g.number j ≡ true = ap (λ (m : ℕ). nat_eq m j) e ∙ same_eq j in
      absurd (let both = sym fails ∙ also in cc))) in
      let told : (lanes_of b.cells).of_helper j p ≡ plan.lanes.first + helper_place j (helpers_on plan.pieces) = ap (λ (o : Option CellPlan). helper_in j o) has.is_plan in
      omega (arith, told, place, at)
    where
      there_is_one : (hs : List HelperPlan) (k : ℕ) → k < length hs → (h : HelperPlan) × (slice_get hs k ≡ Some h)
      there_is_one [] k lt = absurd (omega (arith, lt))
      there_is_one (h ∷ hs) zero lt = (h, refl)
      there_is_one (h ∷ hs) (suc k) lt = there_is_one hs k (omega (arith, lt))

-- the lane of a helper is one of the cell's, before that of its value
pub helper_between : (b : Blueprint) → IsBlueprint b → (p j : ℕ) → (has : HasHelper b p j) → (has.plan.lanes.first ≤ (lanes_of b.cells).of_helper j p) × ((lanes_of b.cells).of_helper j p < has.plan.lanes.value)
helper_between b is p j has =
    let number = value_of 0 b.cells is.plans.numbered p has.plan has.is_plan in
    let place = place_is j (helpers_on has.plan.pieces) has.index has.helper has.is_helper has.number in
    let low = in_range (helpers_on has.plan.pieces) (helper_place j (helpers_on has.plan.pieces)) place.helper place.is_helper in
    let told : (lanes_of b.cells).of_helper j p ≡ has.plan.lanes.first + helper_place j (helpers_on has.plan.pieces) = ap (λ (o : Option CellPlan). helper_in j o) has.is_plan in
    (omega (arith, told), omega (arith, told, low, number))
