use Rattle.std.proofs.Common.{◌-◌, get_or, length, arith}
use Rattle.std.proofs.lemmas.Option.{slice_get-get_or}
use Rattle.av_space.proofs.SlotEnds.{are_ends}
use Rattle.av_space.proofs.spots.ends_of.Goals as goal

pub returns : goal.returns
returns c =
    let slots = c.args.slots.now in
    let x = c.index-slots-0.result in
    let y = c.index-slots-slots.result in
    let some = c.requires.some in
    are_ends slots c.requires.order (get_or slots 0 x) (get_or slots (length slots - 1) y) (length slots - 1) (slice_get-get_or slots 0 x some) (slice_get-get_or slots (length slots - 1) y (omega (arith, some))) (omega (arith, some))
