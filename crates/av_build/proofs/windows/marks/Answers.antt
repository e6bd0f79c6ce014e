use Rattle.std.proofs.Common.{IsTrue, get_or, arith}
use Rattle.std.proofs.lemmas.Option.{slice_get-get_or}
use Rattle.std.proofs.lemmas.Grind.{elements}
use Rattle.av_flat.specs.Points.{has}
use Rattle.av_flat.proofs.Sets.{has_is}
use Rattle.av_space.specs.declared.layout.Slot.{Slot}
use Rattle.av_kinds.specs.Counters.{count_in}
use Rattle.av_build.proofs.WindowSteps.{one_mark}
use Rattle.av_build.proofs.Pairwise.{element}
use Rattle.av_build.proofs.windows.marks.Goals as goal

pub loop-k-preserved : goal.loop-k-preserved
loop-k-preserved c =
    let slots = c.args.slots.now in
    let order = c.args.order.now in
    let n = c.loop-k.k-index in
    let k = get_or order n 0 in
    let is_place = slice_get-get_or order n 0 c.loop-k-test.true in
    let slot = c.index-slots-k.result in
    let is_slot = element slots k slot slot (c.requires.order n k is_place) c.index-slots-k.is in
    one_mark (count_in c.args.counter) slots order (λ (s : Slot). IsTrue (has c.args.set.now s.point)) n c.loop-k.marks c.push.new.self c.loop-k.invariant slot (record { place = k; is_place = is_place; is_slot = is_slot })
    (record { number = c.number.result; holds = c.contains.result }) c.number.ensures ((λ x. (has_is c.args.set.now slot.point).1 (c.contains.ensures.0 x)), (λ x. c.contains.ensures.1 ((has_is c.args.set.now slot.point).0 x))) c.in_ok-push.ensures.ok

pub bounds-slots-k : goal.bounds-slots-k
bounds-slots-k c = grind (arith, elements)

pub offset_bounds-slots-k : goal.offset_bounds-slots-k
offset_bounds-slots-k c = grind (arith, elements)

pub contains-requires-clause-fits : goal.contains-requires-clause-fits
contains-requires-clause-fits c = grind (arith, elements)

pub contains-requires-clause-small : goal.contains-requires-clause-small
contains-requires-clause-small c = grind (arith, elements)
