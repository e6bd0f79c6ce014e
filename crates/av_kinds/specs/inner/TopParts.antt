-- What lanes and the counter bring into the top module.
use Rattle.std.specs.Prelude.{◌≡◌, ℕ, Bool, if◌then◌else◌, List, [], ◌∷◌, ◌++◌, Some, slice_get}
use Rattle.av_net.specs.declared.netlist.Drive.{Drive}
use Rattle.av_kinds.specs.declared.counter.Counter.{Counter}
use Rattle.av_kinds.specs.declared.top.TopParts.{TopParts}
use Rattle.av_kinds.specs.Programs.{Lane, Program}
use Rattle.av_kinds.specs.Names.{labels}
use Rattle.av_kinds.specs.Counters.{counter_width, counter_name}
use Rattle.av_kinds.specs.Tops.{port, lane_wires, lane_registers, lane_steps, output_drives}
use Rattle.av_kinds.specs.inner.Counts.{counter_wires, counter_drives, counter_step}

-- the lane q with its delay line
pub record AddsLaneAt (program : Program) (q : ℕ) (old new : TopParts) : Type 0 where
  pub lane : Lane
  pub is_lane : slice_get program.lanes q ≡ Some lane
  pub wires : new.wires ≡ old.wires ++ lane_wires (labels program) q (lane ∷ [])
  pub registers : new.registers ≡ old.registers ++ lane_registers (labels program) q (lane ∷ [])
  pub drives : new.drives ≡ old.drives
  pub steps : new.steps ≡ old.steps ++ lane_steps (labels program) q (lane ∷ [])

pub record ArePartsOf (program : Program) (parts : TopParts) : Type 0 where
  pub wires : parts.wires ≡ lane_wires (labels program) 0 program.lanes
  pub registers : parts.registers ≡ lane_registers (labels program) 0 program.lanes
  pub drives : parts.drives ≡ []
  pub steps : parts.steps ≡ lane_steps (labels program) 0 program.lanes

-- the counter, where it is tested
pub record AddsCounter (counter : Counter) (counts : Bool) (old new : TopParts) : Type 0 where
  pub wires : new.wires ≡ old.wires ++ (if counts then counter_wires counter else [])
  pub registers : new.registers ≡ old.registers ++ (if counts then port counter_width (counter_name counter) ∷ [] else [])
  pub drives : new.drives ≡ old.drives ++ (if counts then counter_drives counter else [])
  pub steps : new.steps ≡ old.steps ++ (if counts then counter_step counter ∷ [] else [])

-- those of the lanes, behind them the drives of the outputs, and then the counter
pub record AreAllParts (counter : Counter) (counts : Bool) (program : Program) (parts : TopParts) : Type 0 where
  pub lanes : TopParts
  pub are_lanes : ArePartsOf program lanes
  pub drives : List Drive
  pub are_drives : drives ≡ lanes.drives ++ output_drives (labels program) 0 program.outputs
  pub adds_counter : AddsCounter counter counts (record { wires = lanes.wires; registers = lanes.registers; drives = drives; steps = lanes.steps }) parts
