use Rattle.std.proofs.Common.{◌+◌, ℕ, refl, sym, subst, arith, get_or}
use Rattle.std.proofs.lemmas.Option.{slice_get-get_or}
use Rattle.std.proofs.lemmas.Grind.{common_steps, elements}
use Rattle.av_flat.specs.Trees.{view}
use Rattle.av_kinds.specs.Counters.{count_in}
use Rattle.av_history.specs.Performing.{IsPlaceSource}
use Rattle.av_build.specs.inner.Blueprints.{seen, spot_of, lanes_of}
use Rattle.av_build.specs.inner.Orders.{AreMomentsTo}
use Rattle.av_build.specs.inner.Programmed.{Always}
use Rattle.av_build.proofs.MomentLemmas.{one_more}
use Rattle.av_build.proofs.Pairwise.{element_of}
use Rattle.av_build.proofs.PlaceSources.{plain_source}
use Rattle.av_build.proofs.blueprint.Blueprint.moments.Goals as goal

pub loop-k-preserved : goal.loop-k-preserved
loop-k-preserved c =
    let b = c.args.self.now in
    let spot = c.args.spot.now in
    let site = c.args.site.now in
    let n = c.loop-k.k-index in
    let place = get_or c.args.order.now n 0 in
    let is_place = slice_get-get_or c.args.order.now n 0 c.loop-k-test.true in
    let slot = c.index-slots-k.result in
    let low = c.requires.order.within n place is_place in
    let is_slot = element_of spot.slots c.as_slice-slots.result.now place slot slot c.as_slice-slots.ensures low c.index-slots-k.is in
    let source = plain_source b.array (lanes_of b.cells) spot site c.requires.site slot c.requires.spot c.requires.plain (view site.place.tree) refl c.own_source.result c.own_source.ensures in
    subst (AreMomentsTo (count_in c.args.counter) spot.slots c.args.order.now Always (λ z d source. IsPlaceSource (seen b.array) (lanes_of b.cells) (spot_of spot) z d site.place.site (view site.place.tree) source) (n + 1)) (sym c.in_ok-push.ensures.ok)
    (one_more (count_in c.args.counter) spot.slots c.args.order.now Always (λ z d source. IsPlaceSource (seen b.array) (lanes_of b.cells) (spot_of spot) z d site.place.site (view site.place.tree) source) n c.loop-k.moments c.loop-k.invariant slot
    (record { place = place; is_place = is_place; is_slot = is_slot }) c.requires.order tt (record { number = c.number.result; source = c.own_source.result }) c.number.ensures source)

pub returns : goal.returns
returns c =
    let b = c.args.self.now in
    let spot = c.args.spot.now in
    let site = c.args.site.now in
    let test = c.loop-k-test.false in
    let end = c.loop-k.auto.k-index-end in
    subst (λ (n : ℕ). AreMomentsTo (count_in c.args.counter) spot.slots c.args.order.now Always (λ z d source. IsPlaceSource (seen b.array) (lanes_of b.cells) (spot_of spot) z d site.place.site (view site.place.tree) source) n c.loop-k.moments) (omega (arith, test, end)) c.loop-k.invariant

pub own_source-requires-clause-slot : goal.own_source-requires-clause-slot
own_source-requires-clause-slot c = grind (arith, elements)

pub loop-k-init : goal.loop-k-init
loop-k-init c = grind (arith, common_steps)

pub bounds-slots-k : goal.bounds-slots-k
bounds-slots-k c = grind (arith, elements)

pub offset_bounds-slots-k : goal.offset_bounds-slots-k
offset_bounds-slots-k c = grind (arith, elements)
