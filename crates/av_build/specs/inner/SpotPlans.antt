-- The pieces on cells without their computations, which are found again among all that the array has on the cell.
use Rattle.std.specs.Prelude.{List, [], Option, Some, None, slice_get, filter}
use Rattle.av_flat.specs.Points.{has}
use Rattle.av_space.specs.declared.array.Array.{Array as ArrayMade}
use Rattle.av_space.specs.declared.layout.Slot.{Slot}
use Rattle.av_space.specs.declared.spots.Spot.{Spot as SpotMade}
use Rattle.av_build.specs.declared.spots.SpotPlan.{SpotPlan}

abbrev pub plan_of : SpotMade → SpotPlan
plan_of at = record { cell = at.cell; node = at.node; place = at.place; var = at.var; number = at.number; piece = at.piece }

abbrev pub slots_by : Option (List Slot) → List Slot
slots_by None = []
slots_by (Some slots) = slots

-- with those computations on its cell that are points of the piece
abbrev pub spot_by : ArrayMade → SpotPlan → SpotMade
spot_by w plan = record {
  cell = plan.cell;
  node = plan.node;
  place = plan.place;
  var = plan.var;
  number = plan.number;
  piece = plan.piece;
  slots = filter (λ (t : Slot). has plan.piece.now.domain t.point) (slots_by (slice_get w.layout.slots plan.cell.0));
}
