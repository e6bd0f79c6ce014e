-- The kind of a shape.
use Rattle.std.specs.Prelude.{ℕ, ◌+◌, Bool, nat_lt, ◌||◌, List, [], ◌∷◌, ◌++◌, length, if◌then◌else◌}
use Rattle.std.specs.List.{list_any}
use Rattle.av_net.specs.declared.operation.Operand.{Operand}
use Rattle.av_net.specs.declared.operation.Operand.TheVariants.{Name}
use Rattle.av_net.specs.declared.netlist.Port.{Port}
use Rattle.av_net.specs.declared.netlist.Drive.{Drive}
use Rattle.av_net.specs.declared.plan.CellKind.{CellKind}
use Rattle.av_kinds.specs.inner.Gates.{Built, drives_from, ports_from}
use Rattle.av_kinds.specs.inner.Cells.{datapaths_built}
use Rattle.av_kinds.specs.Counters.{counter_width}
use Rattle.av_kinds.specs.Names.{pipe_name, inner_name, kind_value, kind_counter, kind_name}
use Rattle.av_kinds.specs.inner.Shapes.{ModeShape, LaneShape}
use Rattle.av_kinds.specs.Tops.{port}
use Rattle.av_kinds.specs.inner.Interfaces.{PortCounts, modes_ports, past_modes, datapaths_of}

-- ---- whether it counts

abbrev pub selects : ModeShape → Bool
selects mode = list_any (λ site. nat_lt 0 site.selections) mode.sites

-- a lane tests the counter where it has two modes, or a place with a selection
abbrev pub lane_counts : LaneShape → Bool
lane_counts lane = nat_lt 1 (length lane.modes) || list_any selects lane.modes

abbrev pub counts : List LaneShape → Bool
counts shape = list_any lane_counts shape

-- ---- its lanes

-- the output of the lane k: the last one has the value
abbrev pub output_of : ℕ → List LaneShape → List ℕ
output_of k [] = kind_value
output_of k (lane ∷ lanes) = pipe_name k

-- by what has the number of the counter
abbrev pub lane_built : Operand → PortCounts → ℕ → LaneShape → Built
lane_built counter at n lane = datapaths_built (inner_name n) lane.width counter 0 (datapaths_of at lane.modes)

-- lanes with the numbers from k on, whose wires have numbers from n on
abbrev pub lanes_inputs : PortCounts → List LaneShape → List Port
lanes_inputs at [] = []
lanes_inputs at (lane ∷ lanes) = modes_ports at lane.modes ++ lanes_inputs (past_modes at lane.modes) lanes

abbrev pub lanes_outputs : ℕ → List LaneShape → List Port
lanes_outputs k [] = []
lanes_outputs k (lane ∷ lanes) = port lane.width (output_of k lanes) ∷ lanes_outputs (k + 1) lanes

abbrev pub lanes_wires : Operand → PortCounts → ℕ → List LaneShape → List Port
lanes_wires counter at n [] = []
lanes_wires counter at n (lane ∷ lanes) =
    let gates = (lane_built counter at n lane).gates in
    ports_from (inner_name n) 0 gates ++ lanes_wires counter (past_modes at lane.modes) (n + length gates) lanes

abbrev pub lanes_drives : Operand → PortCounts → ℕ → ℕ → List LaneShape → List Drive
lanes_drives counter at n k [] = []
lanes_drives counter at n k (lane ∷ lanes) =
    let b = lane_built counter at n lane in
    drives_from (inner_name n) 0 b.gates ++ (record { target = output_of k lanes; operation = b.root } ∷ lanes_drives counter (past_modes at lane.modes) (n + length b.gates) (k + 1) lanes)

-- ---- the kind

abbrev pub no_ports : PortCounts
no_ports = record { inputs = 0; taps = 0; bounds = 0 }

abbrev pub kind_inputs : List LaneShape → List Port
kind_inputs shape = (if counts shape then port counter_width kind_counter ∷ [] else []) ++ lanes_inputs no_ports shape

abbrev pub kind_by : ℕ → List LaneShape → CellKind
kind_by number shape = record {
  name = kind_name number;
  inputs = kind_inputs shape;
  outputs = lanes_outputs 0 shape;
  wires = lanes_wires (Name kind_counter) no_ports 0 shape;
  drives = lanes_drives (Name kind_counter) no_ports 0 0 shape;
}
