use Rattle.std.proofs.Common.{rules, ◌≡◌, ◌<◌, IsTrue, false, get_or, length, refl, sym, subst, ⊎_elim, arith}
use Rattle.std.proofs.lemmas.Bool.{cases_lt}
use Rattle.std.proofs.lemmas.List.{get_or_read}
use Rattle.av_flat.specs.Points.{has}
use Rattle.av_flat.proofs.Sets.{has_is}
use Rattle.av_space.specs.declared.layout.Slot.{Slot}
use Rattle.av_space.proofs.operators.has_any.Goals as goal

pub returns-then-contains : goal.returns-then-contains
returns-then-contains c =
    let t : IsTrue c.contains.result = search rules in
    let l : c.loop-slot.slot-index < length c.args.slots.now = search rules in
    let h = (has_is c.args.piece.now.domain c.slot-item.result.point).1 (c.contains.ensures.0 t) in
    ((λ k. (c.loop-slot.slot-index, c.slot-item.result, l, sym c.slot-item.is, h)), (λ k. refl))

pub loop-slot-preserved : goal.loop-slot-preserved
loop-slot-preserved c = λ k d l t.
    let set = c.args.piece.now.domain in
    let slots = c.args.slots.now in
    let x = c.slot-item.result in
    let f : c.contains.result ≡ false = search rules in
    let w : c.loop-slot.slot-index < length slots = search rules in
    ⊎_elim (λ m. c.loop-slot.invariant k d m t)
    (λ le.
    let same : k ≡ c.loop-slot.slot-index = omega (arith, l, le) in
    let here : x ≡ get_or slots c.loop-slot.slot-index d = get_or_read slots c.loop-slot.slot-index x w c.slot-item.is d in
    let at : get_or slots k d ≡ x = subst (λ (i : _). get_or slots i d ≡ x) (sym same) (sym here) in
    let h = (has_is set x.point).0 (subst (λ (y : Slot). IsTrue (has set y.point)) at t) in
    let u = c.contains.ensures.1 h in absurd cc)
    (cases_lt k c.loop-slot.slot-index)
