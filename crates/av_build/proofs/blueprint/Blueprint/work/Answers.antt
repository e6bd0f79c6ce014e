use Rattle.std.proofs.Common.{◌<◌, refl, sym, subst, arith}
use Rattle.std.specs.Prelude.{AllPairs}
use Rattle.std.proofs.lemmas.Grind.{common_steps}
use Rattle.av_space.specs.declared.layout.Slot.{Slot}
use Rattle.av_kinds.specs.Counters.{count_in, number_count}
use Rattle.av_build.specs.inner.Blueprints.{lanes_of}
use Rattle.av_build.specs.inner.Lanes.{IsValueSite}
use Rattle.av_build.specs.inner.Orders.{AreWithin, IsInOrder}
use Rattle.av_build.proofs.Pairwise.{element, next_pair, all_pairs}
use Rattle.av_build.proofs.PieceWorks.{plain_piece, work_for}
use Rattle.av_build.proofs.SpotsOn.{spot_there, sites_there, spot_within}
use Rattle.av_build.proofs.blueprint.Blueprint.work.Goals as goal

pub in_order-requires-clause-ascend : goal.in_order-requires-clause-ascend
in_order-requires-clause-ascend c =
    subst (AllPairs (λ (t u : Slot). t.cycle < u.cycle)) (sym c.as_slice.ensures) (spot_there c.args.self.now c.requires.blueprint c.args.spot.now c.args.places.now c.requires.spot).are_slots.order

pub in_order-requires-clause-within : goal.in_order-requires-clause-within
in_order-requires-clause-within c =
    subst (AreWithin (number_count c.args.counter)) (sym c.as_slice.ensures) (spot_within c.args.self.now c.requires.blueprint c.args.spot.now c.args.places.now c.requires.spot c.args.counter c.requires.counter)

pub value_site-requires-clause-place : goal.value_site-requires-clause-place
value_site-requires-clause-place c = record {
  sites = c.args.places.now;
  spot_on = c.requires.spot;
  index = c.loop-place.place-index;
  is_place = element c.args.places.now c.loop-place.place-index c.place-item.result c.place-item.result c.loop-place-test.true c.place-item.is;
}

pub value_site-requires-clause-order : goal.value_site-requires-clause-order
value_site-requires-clause-order c =
    subst (λ order. IsInOrder (count_in c.args.counter) c.args.spot.now.slots order) (sym c.as_slice-in-loop-place.ensures) (subst (λ slots. IsInOrder (count_in c.args.counter) slots c.in_ok-order.order) c.as_slice.ensures c.in_ok-order.ensures)

pub loop-place-preserved : goal.loop-place-preserved
loop-place-preserved c =
    let next = next_pair (IsValueSite c.args.self.now c.args.counter c.args.spot.now) c.args.places.now c.loop-place.sites c.push.new.self c.loop-place.place-index _ c.place-item.result c.in_ok-value_site.field-0
    c.loop-place-test.true c.place-item.is c.loop-place.invariant.one_each c.loop-place.invariant.each c.in_ok-value_site.ensures c.in_ok-push.ensures.ok in
    record { one_each = next.0; each = next.1 }

pub returns : goal.returns
returns c = λ plan is_plan.
    let b = c.args.self.now in
    let at = c.args.spot.now in
    let all = all_pairs (IsValueSite b c.args.counter at) c.args.places.now c.args.places.now c.loop-place.sites c.loop-place.place-index refl c.loop-place.invariant.one_each c.loop-place.auto.place-index-end c.loop-place-test.false c.loop-place.invariant.each in
    work_for b.array (count_in c.args.counter) (lanes_of b.cells) plan.lanes.first at (plain_piece b.array c.requires.blueprint.array at (spot_there b c.requires.blueprint at c.args.places.now c.requires.spot))
    c.args.places.now (sites_there b c.requires.blueprint at c.args.places.now c.requires.spot) c.loop-place.sites all.0 (λ k x y is_x is_y. all.1 k x y is_x is_y plan is_plan)

pub loop-place-init : goal.loop-place-init
loop-place-init c = grind (arith, common_steps)
