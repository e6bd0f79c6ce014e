use Rattle.std.proofs.Common.{◌≡◌, ◌<◌, List, length, sym, ap, subst, ◌∙◌, arith, get_or, Some}
use Rattle.std.specs.Prelude.{slice_get}
use Rattle.std.proofs.lemmas.Option.{slice_get-get_or}
use Rattle.av_flat.specs.Trees.{view_system}
use Rattle.av_space.specs.declared.cells.Cell.{Cell}
use Rattle.av_space.specs.declared.layout.Slot.{Slot}
use Rattle.av_space.proofs.SiteLinks.{cell_node}
use Rattle.av_space.proofs.linking.consumer_at.Goals as goal

pub variable-requires : goal.variable-requires
variable-requires c =
    let s = view_system c.args.scheduled.now.timed.flat in
    let cells = c.cells.result.now in
    let low : c.args.number.0 < length cells = subst (λ (l : List Cell). c.args.number.0 < length l) (sym c.cells.ensures.is) c.requires in
    let l = cell_node s c.args.scheduled.now.layout.placements c.args.scheduled.now.layout.cells c.cells.ensures.scheduled.layout.are_cells c.args.number.0 c.index-cells-number.result c.requires in
    let same = ap (λ (l : List Cell). (get_or l c.args.number.0 c.index-cells-number.result).node) c.cells.ensures.is in
    omega (arith, l, same)

pub returns-clause-consumer : goal.returns-clause-consumer
returns-clause-consumer c =
    let k = c.args.number.0 in
    let cells = c.args.scheduled.now.layout.cells in
    let d = c.index-cells-number.result in
    let same : get_or cells k d ≡ get_or c.cells.result.now k d = ap (λ (l : List Cell). get_or l k d) (sym c.cells.ensures.is) in
    let slots = c.slots.result.now in
    let many : length slots ≡ length c.args.scheduled.now.layout.slots = ap (λ (l : List (List Slot)). length l) c.slots.ensures.is in
    let one = c.cells.ensures.scheduled.layout.one_each in
    let low : k < length slots = (let l = c.requires in omega (arith, many, one, l)) in
    let at : slice_get slots k ≡ Some c.index-slots-number.result = slice_get-get_or slots k c.index-slots-number.result low ∙ ap Some (sym c.index-slots-number.is) in
    let own : slice_get c.args.scheduled.now.layout.slots k ≡ Some c.as_slice.result.now = subst (λ (l : List (List Slot)). slice_get l k ≡ Some c.index-slots-number.result) c.slots.ensures.is at ∙ ap Some (sym c.as_slice.ensures) in
    record {
      scheduled = c.cells.ensures.scheduled;
      is = record {
        cell = get_or cells k d;
        is_cell = slice_get-get_or cells k d c.requires;
        node = ap (λ (x : Cell). x.node) same;
        are_slots = c.cells.ensures.scheduled.layout.are_slots k c.as_slice.result.now own;
        is_variable = c.variable.ensures;
      };
    }
