use Rattle.std.proofs.Common.{◌≡◌, ◌∙◌, ◌<◌, List, length, sym, ap, subst, arith, Some}
use Rattle.std.specs.Prelude.{slice_get}
use Rattle.std.proofs.lemmas.Option.{slice_get-get_or}
use Rattle.av_space.specs.declared.layout.Slot.{Slot}
use Rattle.av_space.proofs.array.Array.slots.Goals as goal

pub returns : goal.returns
returns c =
    let k = c.args.cell.0 in
    let l = c.args.self.now.layout in
    let is = c.requires.array.layout in
    let slots = c.as_slice.result.now in
    let many : length slots ≡ length l.slots = ap (λ (x : List (List Slot)). length x) c.as_slice.ensures in
    let one = is.one_each in
    let low : k < length slots = (let m = c.requires.cell in omega (arith, many, one, m)) in
    let at : slice_get slots k ≡ Some c.index-as_slice-cell.result = slice_get-get_or slots k c.index-as_slice-cell.result low ∙ ap Some (sym c.index-as_slice-cell.is) in
    let own : slice_get l.slots k ≡ Some c.as_slice-2.result.now = subst (λ (x : List (List Slot)). slice_get x k ≡ Some c.index-as_slice-cell.result) c.as_slice.ensures at ∙ ap Some (sym c.as_slice-2.ensures) in
    is.are_slots k c.as_slice-2.result.now own
