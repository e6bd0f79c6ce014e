-- The lanes of a blueprint, each as it is built, are a program for the array.
use Rattle.std.proofs.Common.{◌≡◌, ℕ, suc, ◌+◌, ◌-◌, ◌<◌, ◌≤◌, inl, inr, List, length, map, refl, sym, ap, subst, ◌∙◌, arith, Option, Some, None}
use Rattle.std.specs.Prelude.{slice_get}
use Rattle.std.proofs.lemmas.List.{length-map}
use Rattle.av_base.proofs.Lists.{get_mapped, there_is}
use Rattle.av_tree.specs.Points.{Point}
use Rattle.av_flat.specs.declared.timed.Helper.{Helper}
use Rattle.av_flat.specs.Trees.{Piece, Variable, view_piece, view_variable}
use Rattle.av_flat.specs.Broadcasts.{Reference}
use Rattle.av_flat.specs.Nodes.{nodes, number_at}
use Rattle.av_space.specs.declared.array.Array.{Array as ArrayMade}
use Rattle.av_space.specs.Spots.{system_of, helpers_of, cells_of, ComputesIn, IsSlotIn}
use Rattle.av_space.proofs.ByPlace.{from_map}
use Rattle.av_space.proofs.Elements.{at_index, in_range}
use Rattle.av_kinds.specs.declared.counter.Counter.{Counter}
use Rattle.av_kinds.specs.declared.program.CellLanes.{CellLanes}
use Rattle.av_kinds.specs.Counters.{count_in}
use Rattle.av_kinds.specs.Programs.{Lane, Program}
use Rattle.av_kinds.specs.Written.{LaneMade, lane_of}
use Rattle.av_history.specs.Performing.{Lanes, IsHelper, helper_spot}
use Rattle.av_build.specs.declared.blueprint.Blueprint.{Blueprint}
use Rattle.av_build.specs.declared.blueprint.CellPlan.{CellPlan}
use Rattle.av_build.specs.declared.blueprint.HelperPlan.{HelperPlan}
use Rattle.av_build.specs.declared.blueprint.LanePlan.{LanePlan}
use Rattle.av_build.specs.inner.Blueprints.{seen, lanes_of, value_in, helper_in, helpers_on, helper_place, of_helper, own_lanes, ArePieces, IsBlueprint}
use Rattle.av_build.specs.inner.Lanes.{IsValueBuilt, IsBuiltBy, AreBuilt}
use Rattle.av_build.specs.inner.Programmed.{IsValueLane, IsHelperLane, IsLaneFor, of_value, of_helper as for_helper, IsProgramFor}
use Rattle.av_build.proofs.BlueprintLemmas.{helper_lane_at, value_lane_at, own_cases, own_size, lane_there, value_of, place_is, place_found}
use Rattle.av_build.proofs.CellUses.{busy}
use Rattle.av_build.proofs.Handovers.{has_helper}
use Rattle.av_build.proofs.HelperPlaces.{spot_at, helped}
use Rattle.av_build.proofs.HelperSearch.{helper_between}
use Rattle.av_build.proofs.HelpersOn.{place_of_helper}

module _ (b : Blueprint) (is : IsBlueprint b) (counter : Counter) (made : List LaneMade) (built : AreBuilt b counter b.lanes made) where
  abbrev w : ArrayMade
  w = b.array

  abbrev lanes : Lanes
  lanes = lanes_of b.cells

  -- ---- a lane of a cell

  module _ (p : ℕ) (plan : CellPlan) (is_plan : slice_get b.cells p ≡ Some plan) where
    pub value_is : plan.lanes.value ≡ plan.lanes.first + length (helpers_on plan.pieces)
    value_is = value_of 0 b.cells is.plans.numbered p plan is_plan

    pieces : ArePieces w p plan.pieces
    pieces = is.plans.pieces p plan is_plan

    -- the i-th lane is what its plan says
    lane_at : (i : ℕ) (own : LanePlan) → slice_get (own_lanes p plan.pieces) i ≡ Some own → (q : ℕ) → q ≡ plan.lanes.first + i → (lane : LaneMade) → slice_get made q ≡ Some lane → IsBuiltBy b counter own.cell.0 own.helper (lane_of lane)
    lane_at i own at q e lane is_lane =
        let there = lane_there 0 0 b.cells is.plans.numbered p p plan (omega arith) is_plan i own at q (omega (arith, e)) in
        built.each q own lane (ap (λ (l : List LanePlan). slice_get l q) is.plans.lanes_are ∙ there) is_lane

    -- there is one
    pub lane_made : (q : ℕ) → plan.lanes.first ≤ q → q ≤ plan.lanes.value → (lane : LaneMade) × (slice_get made q ≡ Some lane)
    lane_made q low high =
        let number = value_is in
        let size = own_size p plan.pieces in
        let own = there_is (own_lanes p plan.pieces) (q - plan.lanes.first) (omega (arith, low, high, number, size)) in
        let there = lane_there 0 0 b.cells is.plans.numbered p p plan (omega arith) is_plan (q - plan.lanes.first) own.0 own.1 q (omega (arith, low)) in
        let within = in_range b.lanes q own.0 (ap (λ (l : List LanePlan). slice_get l q) is.plans.lanes_are ∙ there) in
        let many = built.one_each in
        there_is made q (omega (arith, within, many))

    pub value_built : (lane : LaneMade) → slice_get made plan.lanes.value ≡ Some lane → IsValueBuilt b counter p plan (lane_of lane)
    value_built lane is_lane = lane_at (length (helpers_on plan.pieces)) (record { cell = record { 0 = p }; helper = None }) (value_lane_at p plan.pieces) plan.lanes.value value_is lane is_lane plan is_plan

    value_lane : (lane : LaneMade) → slice_get made plan.lanes.value ≡ Some lane → (c n : ℕ) (z : Point) (v : Variable) → ComputesIn w p c n z → slice_get (nodes (system_of w)) n ≡ Some v
        → IsValueLane (seen w) (count_in counter) lanes plan.lanes.first p n v (lane_of lane)
    value_lane lane is_lane c n z v computes is_variable =
        (value_built lane is_lane).is_lane c n z v computes is_variable

    pub of_value_is : lanes.of_value p ≡ plan.lanes.value
    of_value_is = ap (λ (o : Option CellPlan). value_in o) is_plan

    -- that of a helper of the cell
    module _ (x : ℕ) (h : HelperPlan) (is_helper : slice_get (helpers_on plan.pieces) x ≡ Some h) (lane : LaneMade) (is_lane : slice_get made (plan.lanes.first + x) ≡ Some lane) where
      pub helper_built : (helper : Helper) (v : Variable) (piece : Piece) (r : Reference) → IsHelper (seen w) h.number helper v piece r → IsHelperLane (seen w) (count_in counter) lanes (helper_spot (seen w) helper v piece p) h.number helper r (lane_of lane)
      helper_built helper v piece r it = lane_at x (of_helper p h) (helper_lane_at p plan.pieces x h is_helper) (plan.lanes.first + x) refl lane is_lane helper v piece r it

    -- what each lane is for; the first place of a helper's number is its own
    for_lane : ((x y : ℕ) (g h : HelperPlan) → slice_get (helpers_on plan.pieces) x ≡ Some g → slice_get (helpers_on plan.pieces) y ≡ Some h → g.number ≡ h.number → x ≡ y) → p < length (cells_of w)
        → (q : ℕ) → plan.lanes.first ≤ q → q ≤ plan.lanes.value → (lane : LaneMade) → slice_get made q ≡ Some lane → IsLaneFor (seen w) (count_in counter) lanes plan.lanes.first p q (lane_of lane)
    for_lane different cell q low high lane is_lane =
        let number = value_is in
        let size = own_size p plan.pieces in
        let i = q - plan.lanes.first in
        let own = there_is (own_lanes p plan.pieces) i (omega (arith, low, high, number, size)) in
        elim (own_cases p plan.pieces i own.0 own.1) [
          | inl x ↦ (
              let h = x.0 in
              let at : plan.lanes.first + i ≡ q = omega (arith, low) in
              let short = in_range (helpers_on plan.pieces) i h x.1 in
              let here : slice_get made (plan.lanes.first + i) ≡ Some lane = ap (λ (k : ℕ). slice_get made k) at ∙ is_lane in
              let from = place_of_helper plan.pieces i h x.1 in
              let e = helped w is.array p plan.pieces pieces h from in
              let spot = spot_at w is.array p plan.pieces pieces h.piece e.0 e.1.is_spot in
              let slot = there_is e.0.slots 0 spot.1 in
              let computed = at_index (IsSlotIn w e.0.cell.0 e.0.node.0 e.0.piece.now.domain) e.0.slots spot.2.are_slots.each 0 slot.0 slot.1 in
              let computes : ComputesIn w p slot.0.cycle (number_at (system_of w) e.1.helper.var) slot.0.point = subst (λ (n : ℕ). ComputesIn w p slot.0.cycle n slot.0.point) (sym e.1.node) (subst (λ (k : ℕ). ComputesIn w k slot.0.cycle e.0.node.0 slot.0.point) spot.0 computed.computes) in
              let first_is : helper_place h.number (helpers_on plan.pieces) ≡ i = place_found h.number (helpers_on plan.pieces) i h x.1 refl (λ k g lt is_g f. let same = different k i g h is_g x.1 f in absurd (omega (arith, same, lt))) in
              let told : lanes.of_helper h.number p ≡ plan.lanes.first + helper_place h.number (helpers_on plan.pieces) = ap (λ (o : Option CellPlan). helper_in h.number o) is_plan in
              let value = of_value_is in
              for_helper h.number e.1.helper (view_variable e.0.var.now) (view_piece e.0.piece.now) (record { place = e.1.place; map = e.1.map_is }) e.1.helps slot.0.cycle slot.0.point computes computed.within (omega (arith, told, first_is, at)) low (omega (arith, at, short, number, value))
              (helper_built i h x.1 lane here e.1.helper (view_variable e.0.var.now) (view_piece e.0.piece.now) (record { place = e.1.place; map = e.1.map_is }) e.1.helps))
          | inr x ↦ (
              let u = busy w is.array p cell in
              let last : q ≡ plan.lanes.value = (let f = x.0 in omega (arith, f, low, number)) in
              let here : slice_get made plan.lanes.value ≡ Some lane = ap (λ (k : ℕ). slice_get made k) (sym last) ∙ is_lane in
              of_value u.cycle u.cell.node u.point u.variable u.computes u.is_variable (last ∙ sym of_value_is) (value_lane lane here u.cycle u.cell.node u.point u.variable u.computes u.is_variable))
        ]

  -- ---- the whole

  pub program_for : (program : Program) → program.lanes ≡ map lane_of made → program.cells ≡ map (λ (plan : CellPlan). plan.lanes) b.cells → program.stride ≡ suc (length (helpers_of w))
      → ((p : ℕ) (plan : CellPlan) → slice_get b.cells p ≡ Some plan → (x y : ℕ) (g h : HelperPlan) → slice_get (helpers_on plan.pieces) x ≡ Some g → slice_get (helpers_on plan.pieces) y ≡ Some h → g.number ≡ h.number → x ≡ y)
      → IsProgramFor (seen w) (count_in counter) lanes program
  program_for program are_lanes are_cells stride different = record {
    stride_is = stride;
    one_each = ap (λ (l : List CellLanes). length l) are_cells ∙ length-map b.cells (λ (plan : CellPlan). plan.lanes) ∙ is.plans.one_each;
    value_last = λ p own is_own. (let x = planned p own is_own in ap (λ (l : CellLanes). l.value) (sym x.2) ∙ sym (of_value_is p x.0 x.1));
    only = λ p q own lane is_own low high is_lane.
        let x = planned p own is_own in
        let m = lane_in q lane is_lane in
        let cell = in_range b.cells p x.0 x.1 in
        let many = is.plans.one_each in
        let first = ap (λ (l : CellLanes). l.first) x.2 in
        let value = ap (λ (l : CellLanes). l.value) x.2 in
        subst (λ (l : Lane). IsLaneFor (seen w) (count_in counter) lanes own.first p q l) m.2
        (subst (λ (l : CellLanes). IsLaneFor (seen w) (count_in counter) lanes l.first p q (lane_of m.0)) x.2
        (for_lane p x.0 x.1 (different p x.0 x.1) (omega (arith, cell, many)) q (omega (arith, low, first)) (omega (arith, high, value)) m.0 m.1));
    values = λ p c n z v computes is_variable.
        let plan = plan_of p c n z computes in
        let number = value_is p plan.0 plan.1 in
        let m = lane_made p plan.0 plan.1 plan.0.lanes.value (omega (arith, number)) (omega arith) in
        (plan.0.lanes, own_at p plan.0 plan.1, (lane_of m.0, lane_out (lanes.of_value p) m.0 (ap (λ (k : ℕ). slice_get made k) (of_value_is p plan.0 plan.1) ∙ m.1), value_lane p plan.0 plan.1 m.0 m.1 c n z v computes is_variable));
    helpers = λ j h v piece r it p c z computes inside.
        let on = has_helper b is j h v piece r it p c z computes inside in
        let plan = on.plan in
        let is_plan = on.is_plan in
        let bounds = helper_between b is p j on in
        let place = place_is j (helpers_on plan.pieces) on.index on.helper on.is_helper on.number in
        let told : lanes.of_helper j p ≡ plan.lanes.first + helper_place j (helpers_on plan.pieces) = ap (λ (o : Option CellPlan). helper_in j o) is_plan in
        let high = bounds.1 in
        let m = lane_made p plan is_plan (lanes.of_helper j p) bounds.0 (omega (arith, high)) in
        let here : slice_get made (plan.lanes.first + helper_place j (helpers_on plan.pieces)) ≡ Some m.0 = ap (λ (k : ℕ). slice_get made k) (sym told) ∙ m.1 in
        let same : place.helper.number ≡ j = place.number in
        let lane = helper_built p plan is_plan (helper_place j (helpers_on plan.pieces)) place.helper place.is_helper m.0 here h v piece r (subst (λ (i : ℕ). IsHelper (seen w) i h v piece r) (sym same) it) in
        (plan.lanes, own_at p plan is_plan, bounds.0, bounds.1, (lane_of m.0, lane_out (lanes.of_helper j p) m.0 m.1, subst (λ (i : ℕ). IsHelperLane (seen w) (count_in counter) lanes (helper_spot (seen w) h v piece p) i h r (lane_of m.0)) same lane));
  }
    where
      planned : (p : ℕ) (own : CellLanes) → slice_get program.cells p ≡ Some own → (plan : CellPlan) × (slice_get b.cells p ≡ Some plan) × (plan.lanes ≡ own)
      planned p own e = from_map (λ (plan : CellPlan). plan.lanes) b.cells p own (ap (λ (l : List CellLanes). slice_get l p) (sym are_cells) ∙ e)

      own_at : (p : ℕ) (plan : CellPlan) → slice_get b.cells p ≡ Some plan → slice_get program.cells p ≡ Some plan.lanes
      own_at p plan e = ap (λ (l : List CellLanes). slice_get l p) are_cells ∙ get_mapped (λ (plan : CellPlan). plan.lanes) b.cells p plan e

      lane_in : (q : ℕ) (lane : Lane) → slice_get program.lanes q ≡ Some lane → (m : LaneMade) × (slice_get made q ≡ Some m) × (lane_of m ≡ lane)
      lane_in q lane e = from_map lane_of made q lane (ap (λ (l : List Lane). slice_get l q) (sym are_lanes) ∙ e)

      lane_out : (q : ℕ) (m : LaneMade) → slice_get made q ≡ Some m → slice_get program.lanes q ≡ Some (lane_of m)
      lane_out q m e = ap (λ (l : List Lane). slice_get l q) are_lanes ∙ get_mapped lane_of made q m e

      plan_of : (p c n : ℕ) (z : Point) → ComputesIn w p c n z → (plan : CellPlan) × (slice_get b.cells p ≡ Some plan)
      plan_of p c n z computes =
          let low = in_range (cells_of w) p computes.cell computes.is_cell in
          let many = is.plans.one_each in
          there_is b.cells p (omega (arith, low, many))
