use Rattle.std.proofs.Common.{◌<◌, map, refl, sym, ap, subst, arith}
use Rattle.std.specs.Prelude.{AllPairs}
use Rattle.std.proofs.lemmas.Grind.{common_steps, elements}
use Rattle.av_flat.specs.declared.flat.Flat.{Flat}
use Rattle.av_flat.specs.declared.timed.Timed.{Timed}
use Rattle.av_flat.specs.Trees.{Tree, view, view_system}
use Rattle.av_space.specs.declared.layout.Slot.{Slot}
use Rattle.av_flat.specs.Sites.{PlaceMade}
use Rattle.av_space.specs.Spots.{system_of}
use Rattle.av_kinds.specs.Counters.{count_in, number_count}
use Rattle.av_kinds.specs.Written.{mode_of}
use Rattle.av_kinds.proofs.Added.{if_ok_map}
use Rattle.av_build.specs.inner.PipelineModes.{ArePipelineModes}
use Rattle.av_build.specs.inner.Lanes.{HasVariable}
use Rattle.av_build.specs.inner.Orders.{AreWithin, IsInOrder}
use Rattle.av_build.proofs.HelperModes.{modes_there}
use Rattle.av_build.proofs.PlacesOn.{is_place, found_on}
use Rattle.av_build.proofs.SpotsOn.{some_slots, spot_there, site_at, spot_within, variable_there}
use Rattle.av_build.proofs.blueprint.Blueprint.pipeline_modes.Goals as goal

pub in_order-requires-clause-ascend : goal.in_order-requires-clause-ascend
in_order-requires-clause-ascend c =
    let on = c.requires.helper in
    subst (AllPairs (λ (t u : Slot). t.cycle < u.cycle)) (sym c.as_slice-4.ensures) (spot_there c.args.self.now c.requires.blueprint c.args.spot.now on.sites on.spot_on).are_slots.order

pub in_order-requires-clause-within : goal.in_order-requires-clause-within
in_order-requires-clause-within c =
    let on = c.requires.helper in
    subst (AreWithin (number_count c.args.counter)) (sym c.as_slice-4.ensures) (spot_within c.args.self.now c.requires.blueprint c.args.spot.now on.sites on.spot_on c.args.counter c.requires.counter)

pub pipeline_moments-requires-clause-site : goal.pipeline_moments-requires-clause-site
pipeline_moments-requires-clause-site c =
    let b = c.args.self.now in
    let at = c.args.spot.now in
    let h = c.args.helper in
    let on = c.requires.helper in
    let mine = c.index-as_slice-helper-2.result in
    site_at b c.requires.blueprint at on.sites on.spot_on h.site mine
    (is_place b at h on c.as_slice.result.now c.index-as_slice-spot.result c.as_slice.ensures c.index-as_slice-spot.is c.as_slice-2.result.now c.as_slice-2.ensures c.index-as_slice-helper.result c.index-as_slice-helper.is
    c.as_slice-3.result.now c.as_slice-3.ensures mine c.index-as_slice-helper-2.is)

pub helper_modes-requires : goal.helper_modes-requires
helper_modes-requires c =
    let b = c.args.self.now in
    let at = c.args.spot.now in
    let h = c.args.helper in
    let on = c.requires.helper in
    let mine = c.index-as_slice-helper-2.result in
    let there = site_at b c.requires.blueprint at on.sites on.spot_on h.site mine
    (is_place b at h on c.as_slice.result.now c.index-as_slice-spot.result c.as_slice.ensures c.index-as_slice-spot.is c.as_slice-2.result.now c.as_slice-2.ensures c.index-as_slice-helper.result c.index-as_slice-helper.is
    c.as_slice-3.result.now c.as_slice-3.ensures mine c.index-as_slice-helper-2.is) in
    let tree = ap (λ (x : PlaceMade). view x.tree) c.read.view_is in
    subst (λ (f : Flat). HasVariable (view_system f) (view c.read.inside.tree.now)) (ap (λ (t : Timed). t.flat) (sym c.system-timed.ensures))
    (subst (λ (t : Tree). HasVariable (system_of b.array) t) (sym tree)
    (variable_there b c.requires.blueprint at (spot_there b c.requires.blueprint at on.sites on.spot_on) (some_slots b c.requires.blueprint at on.sites on.spot_on) mine there))

pub returns : goal.returns
returns c =
    let b = c.args.self.now in
    let at = c.args.spot.now in
    let h = c.args.helper in
    let count = count_in c.args.counter in
    let mine = c.index-as_slice-helper-2.result in
    let on = found_on b at h c.requires.helper c.as_slice.result.now c.index-as_slice-spot.result c.as_slice.ensures c.index-as_slice-spot.is c.as_slice-2.result.now c.as_slice-2.ensures
    c.index-as_slice-helper.result c.index-as_slice-helper.is c.as_slice-3.result.now c.as_slice-3.ensures mine c.index-as_slice-helper-2.is c.in-Some.pipeline c.in-Some.is in
    let order = subst (λ l. IsInOrder count at.slots l) (sym c.as_slice-5.ensures) (subst (λ s. IsInOrder count s c.in_ok-order.order) c.as_slice-4.ensures c.in_ok-order.ensures) in
    let tree = ap (λ (x : PlaceMade). view x.tree) c.read.view_is in
    if_ok_map _ _ (λ modes are.
    let here = subst (λ (t : Tree). ArePipelineModes (system_of b.array) at.var.now.width t c.in_ok-found.found (map mode_of modes)) tree
    (subst (λ (f : Flat). ArePipelineModes (view_system f) at.var.now.width (view c.read.inside.tree.now) c.in_ok-found.found (map mode_of modes)) (ap (λ (t : Timed). t.flat) c.system-timed.ensures) are) in
    modes_there b c.requires.blueprint at h on c.args.counter c.requires.counter c.as_slice-5.result.now order c.in_ok-found.found c.in_ok-found.ensures at.var.now.width refl (map mode_of modes) here) c.helper_modes.result c.helper_modes.ensures

pub pipeline_moments-requires-clause-order : goal.pipeline_moments-requires-clause-order
pipeline_moments-requires-clause-order c = grind (arith, common_steps)

pub offset_bounds-as_slice-helper : goal.offset_bounds-as_slice-helper
offset_bounds-as_slice-helper c = grind (arith, elements)

pub bounds-as_slice-helper-2 : goal.bounds-as_slice-helper-2
bounds-as_slice-helper-2 c = grind (arith, elements)

pub unreachable-requires : goal.unreachable-requires
unreachable-requires c = grind (arith, elements)

pub bounds-as_slice-helper : goal.bounds-as_slice-helper
bounds-as_slice-helper c = grind (arith, elements)

pub pipeline_moments-requires-clause-spot : goal.pipeline_moments-requires-clause-spot
pipeline_moments-requires-clause-spot c = grind (arith, elements)

pub offset_bounds-as_slice-helper-2 : goal.offset_bounds-as_slice-helper-2
offset_bounds-as_slice-helper-2 c = grind (arith, elements)

pub bounds-as_slice-spot : goal.bounds-as_slice-spot
bounds-as_slice-spot c = grind (arith, elements)

pub offset_bounds-as_slice-spot : goal.offset_bounds-as_slice-spot
offset_bounds-as_slice-spot c = grind (arith, elements)
