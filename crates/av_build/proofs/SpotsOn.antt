-- A piece on a cell, with its places, as a blueprint has them.
use Rattle.std.proofs.Common.{◌≡◌, ℕ, ◌<◌, List, length, refl, sym, subst, Some}
use Rattle.std.specs.Prelude.{slice_get}
use Rattle.av_base.proofs.Lists.{there_is}
use Rattle.av_affine.specs.Maps.{image}
use Rattle.av_tree.specs.Points.{Point}
use Rattle.av_flat.specs.Trees.{Tree, view, reference, constant, binary, choice, restriction, cases, dependence, reduction, pick}
use Rattle.av_space.specs.declared.spots.Site.{Site}
use Rattle.av_space.specs.declared.spots.Spot.{Spot as SpotMade}
use Rattle.av_space.specs.declared.layout.Slot.{Slot}
use Rattle.av_space.specs.Layouts.{IsSlot, AreSlots}
use Rattle.av_space.specs.Spots.{system_of, placings_of, cells_of, IsSpot, IsSlotIn, AreSites, IsSiteOf}
use Rattle.av_space.specs.Taps.{Pipeline, IsReadBy}
use Rattle.av_space.proofs.Elements.{at_index}
use Rattle.av_space.proofs.SpotReadings.{declared_read}
use Rattle.av_kinds.specs.declared.counter.Counter.{Counter}
use Rattle.av_kinds.specs.Counters.{number_count}
use Rattle.av_build.specs.declared.blueprint.Blueprint.{Blueprint}
use Rattle.av_build.specs.inner.Blueprints.{IsBlueprint, IsCounted, IsSpotOn, HasHelper}
use Rattle.av_build.specs.inner.Lanes.{HasVariable}
use Rattle.av_build.specs.inner.Orders.{AreWithin}
use Rattle.av_build.proofs.HelperPlaces.{spot_at}
use Rattle.av_build.proofs.HelpersOn.{helper_of_place}

module _ (b : Blueprint) (is : IsBlueprint b) (at : SpotMade) (sites : List Site) (on : IsSpotOn b at sites) where
  pub some_slots : 0 < length at.slots
  some_slots = (spot_at b.array is.array at.cell.0 on.plan.pieces (is.plans.pieces at.cell.0 on.plan on.is_plan) on.number at on.is_spot).1

  pub spot_there : IsSpot b.array at
  spot_there = (spot_at b.array is.array at.cell.0 on.plan.pieces (is.plans.pieces at.cell.0 on.plan on.is_plan) on.number at on.is_spot).2

  pub sites_there : AreSites b.array at sites
  sites_there = (is.plans.pieces at.cell.0 on.plan on.is_plan).sites on.number at sites on.is_spot on.are_sites

  pub site_at : (i : ℕ) (place : Site) → slice_get sites i ≡ Some place → IsSiteOf b.array at place
  site_at i place e = at_index (IsSiteOf b.array at) sites sites_there.each i place e

  -- the helper of a place is one of the cell's
  pub helper_on : (i : ℕ) (place : Site) → slice_get sites i ≡ Some place → (h : Pipeline) → place.pipeline ≡ Some h → HasHelper b at.cell.0 h.number
  helper_on i place e h pipeline =
      let found = helper_of_place on.plan.pieces on.number sites on.are_sites i place e h pipeline in
      record { plan = on.plan; is_plan = on.is_plan; index = found.0; helper = record { number = h.number; piece = on.number; site = i }; is_helper = found.1; number = refl }

  -- its computations are not as far apart as the counter has numbers
  pub spot_within : (counter : Counter) → IsCounted b.array counter → AreWithin (number_count counter) at.slots
  spot_within counter counted = λ j k s t is_s is_t.
      let own = spot_there.are_slots.each in
      let x = at_index (IsSlotIn b.array at.cell.0 at.node.0 at.piece.now.domain) at.slots own j s is_s in
      let y = at_index (IsSlotIn b.array at.cell.0 at.node.0 at.piece.now.domain) at.slots own k t is_t in
      counted.within at.cell.0 s.cycle t.cycle at.node.0 at.node.0 s.point t.point x.computes y.computes

-- nor are all computations of a cell
pub cell_within : (b : Blueprint) (counter : Counter) → IsCounted b.array counter → (p : ℕ) (slots : List Slot) → AreSlots (system_of b.array) (placings_of b.array) (cells_of b.array) p slots → AreWithin (number_count counter) slots
cell_within b counter counted p slots are = λ j k s t is_s is_t.
    let x = at_index (IsSlot (system_of b.array) (placings_of b.array) (cells_of b.array) p) slots are.each j s is_s in
    let y = at_index (IsSlot (system_of b.array) (placings_of b.array) (cells_of b.array) p) slots are.each k t is_t in
    counted.within p s.cycle t.cycle x.node y.node s.point t.point x.computes y.computes

-- ---- what a place reads

module _ (b : Blueprint) (is : IsBlueprint b) (at : SpotMade) (spot : IsSpot b.array at) (some : 0 < length at.slots) (mine : Site) (placed : IsSiteOf b.array at mine) where
  by_tree : (t : Tree) → view mine.place.tree ≡ t → HasVariable (system_of b.array) t
  by_tree (reference place m) e =
      let slot = there_is at.slots 0 some in
      let on = at_index (IsSlotIn b.array at.cell.0 at.node.0 at.piece.now.domain) at.slots spot.are_slots.each 0 slot.0 slot.1 in
      let y : Point = image m.rows slot.0.point in
      let read = declared_read b.array is.array at spot mine placed slot.0 on place y (subst (λ (u : Tree). IsReadBy u slot.0.point place y) (sym e) (refl, refl)) in
      (read.variable, read.is)
  by_tree (constant n) e = tt
  by_tree (binary g l r) e = tt
  by_tree (choice l c r x y) e = tt
  by_tree (restriction d t) e = tt
  by_tree (cases ts) e = tt
  by_tree (dependence m t) e = tt
  by_tree (reduction o m t set) e = tt
  by_tree (pick place choices n) e = tt

  -- is there
  pub variable_there : HasVariable (system_of b.array) (view mine.place.tree)
  variable_there = by_tree (view mine.place.tree) refl
