use Rattle.std.proofs.Common.{◌∙◌, ◌-◌, ◌<◌, List, length, ap, arith}
use Rattle.av_space.specs.declared.layout.Slot.{Slot}
use Rattle.av_space.proofs.ByPlace.{read_at}
use Rattle.av_space.proofs.OwnSlots.{own_at}
use Rattle.av_space.proofs.ports.own_slots.Goals as goal

pub bounds-own-place : goal.bounds-own-place
bounds-own-place c =
    let many = ap (λ (own : List (List Slot)). length own) c.as_slice-own.ensures in
    let number = c.requires.at.own.number in
    let low = c.requires.low in
    let high = c.requires.high in
    omega (arith, many, number, low, high)

pub returns : goal.returns
returns c = λ slots is.
    let at = c.args.at.now in
    let part = c.index-own-place.result in
    let many = ap (λ (own : List (List Slot)). length own) c.as_slice-own.ensures in
    let number = c.requires.at.own.number in
    let low = c.requires.low in
    let high = c.requires.high in
    let within : c.args.cell.0 - at.first < length c.as_slice-own.result.now = omega (arith, many, number, low, high) in
    let read = read_at at.own c.as_slice-own.result.now (c.args.cell.0 - at.first) part c.as_slice-own.ensures within c.index-own-place.is in
    c.as_slice.ensures ∙ own_at at.scheduled.now.layout.slots at.piece.now.domain at.first at.last c.args.cell.0 at.own slots part c.requires.at.own low is read
