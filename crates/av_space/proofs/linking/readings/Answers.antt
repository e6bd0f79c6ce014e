use Rattle.std.proofs.Common.{◌≡◌, ◌+◌, ◌<◌, ◌++◌, List, take, sym, ap, subst, ◌∙◌, append-nil, arith}
use Rattle.std.specs.Prelude.{AllPairs, Contains}
use Rattle.std.proofs.lemmas.List.Kept.{AllPairs-filter}
use Rattle.std.proofs.lemmas.Grind.{common_steps}
use Rattle.av_flat.specs.Points.{has}
use Rattle.av_flat.specs.Trees.{view_piece, view_system}
use Rattle.av_space.specs.declared.layout.Slot.{Slot}
use Rattle.av_space.specs.inner.Sites.{tap_of}
use Rattle.av_space.specs.inner.Readings.{IsReadingOf, AreReadings}
use Rattle.av_space.proofs.Fed.{from_filter}
use Rattle.av_space.proofs.SlotReadings.{listed, next_slot}
use Rattle.av_space.proofs.linking.readings.Goals as goal
use Rattle.av_space.proofs.linking.readings.Goals.{in-Some+in_ok-push, in_default}

pub reading_at-requires : goal.reading_at-requires
reading_at-requires c =
    let slots = c.args.slots.now in
    let i = c.loop-slot.slot-index in
    let slot = c.slot-item.result in
    let whole = c.requires in
    let here : Contains slots slot = (i, c.loop-slot-test.true, sym c.slot-item.is) in
    let among = (from_filter (λ (x : Slot). has c.args.piece.now.domain x.point) whole.slots slot (subst (λ (ts : List Slot). Contains ts slot) whole.own_is here)).0 in
    (whole.slots, among, whole.site)

pub loop-slot-preserved : goal.loop-slot-preserved
loop-slot-preserved c =
    let s = view_system c.args.scheduled.now.timed.flat in
    let placings = c.args.scheduled.now.layout.placements in
    let cells = c.args.scheduled.now.layout.cells in
    let t = tap_of c.args.site.now in
    let piece = view_piece c.args.piece.now in
    let slots = c.args.slots.now in
    let rs = c.loop-slot.readings in
    let whole = c.requires in
    let order : AllPairs (λ a b. a.cycle < b.cycle) slots =
    subst (AllPairs (λ (a b : Slot). a.cycle < b.cycle)) (sym whole.own_is) (AllPairs-filter (λ (a b : Slot). a.cycle < b.cycle) (λ (x : Slot). has piece.domain x.point) whole.slots whole.site.is.are_slots.order) in
    let next = next_slot s placings cells c.args.node.0 t piece slots c.loop-slot.slot-index c.slot-item.result c.loop-slot-test.true c.slot-item.is order rs c.loop-slot.invariant c.reading_at.result c.reading_at.ensures.cycle c.reading_at.ensures.reading in
    let new : rs ++ listed c.reading_at.result ≡ c.match-reading_at.readings = elim c.match-reading_at.branch [
      | in-Some+in_ok-push w ↦ (ap (λ o. rs ++ listed o) w.in-Some.is ∙ sym w.in_ok-push.ensures.ok ∙ sym w.readings-is)
      | in_default w ↦ (ap (λ o. rs ++ listed o) w.in_default.is ∙ append-nil rs ∙ sym w.readings-is)
    ] in
    subst (AreReadings (IsReadingOf s placings cells c.args.node.0 t piece (take (c.loop-slot.slot-index + 1) slots))) new next

pub returns : goal.returns
returns c = grind (arith, common_steps)
