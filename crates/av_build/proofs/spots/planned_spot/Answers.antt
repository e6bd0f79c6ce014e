use Rattle.std.proofs.Common.{◌∙◌, List, ap, subst}
use Rattle.std.specs.Prelude.{filter, slice_get}
use Rattle.av_flat.specs.Nodes.{nodes}
use Rattle.av_flat.specs.Points.{has}
use Rattle.av_flat.specs.Trees.{view_piece, view_variable}
use Rattle.av_space.specs.declared.layout.Slot.{Slot}
use Rattle.av_space.specs.Spots.{system_of, cells_of, AreSlotsIn}
use Rattle.av_space.proofs.Elements.{in_range}
use Rattle.av_space.proofs.OnCells.{slot_points}
use Rattle.av_space.proofs.OnSpots.{some_slots}
use Rattle.av_build.specs.inner.SpotPlans.{spot_by}
use Rattle.av_build.proofs.SpotsAgain.{same_slots}
use Rattle.av_build.proofs.spots.planned_spot.Goals as goal

pub slots-requires-clause-cell : goal.slots-requires-clause-cell
slots-requires-clause-cell c = in_range (cells_of c.args.array.now) c.args.plan.now.cell.0 c.requires.spot.cell c.requires.spot.is_cell

pub slots_in-requires : goal.slots_in-requires
slots_in-requires c =
    let w = c.args.array.now in
    let plan = c.args.plan.now in
    let spot = c.requires.spot in
    slot_points w.timed.now w.layout plan.cell.0 (view_variable plan.var.now) c.slots.result.now c.requires.array.legal
    (record { cell = spot.cell; is_cell = spot.is_cell; is_variable = ap (slice_get (nodes (system_of w))) spot.node ∙ spot.is_variable; are_slots = c.slots.ensures }) plan.number (view_piece plan.piece.now) spot.is_piece

pub returns : goal.returns
returns c =
    let w = c.args.array.now in
    let plan = c.args.plan.now in
    let spot = c.requires.spot in
    let set = plan.piece.now.domain in
    let found = filter (λ (t : Slot). has set t.point) c.slots.result.now in
    let own = subst (λ n. AreSlotsIn w plan.cell.0 n set found) spot.node (some_slots w plan.cell.0 spot.cell set c.slots.result.now spot.is_cell c.slots.ensures) in
    let same = same_slots w plan.cell.0 plan.node.0 set found (spot_by w plan).slots own spot.are_slots in
    ap (λ (l : List Slot). record { cell = plan.cell; node = plan.node; place = plan.place; var = plan.var; number = plan.number; piece = plan.piece; slots = l }) (c.in_ok-slots.ensures ∙ same)
