-- The top module of a program: its ports, a wire for each lane, and a delay line for each lane that is read later.
use Rattle.std.specs.Prelude.{ℕ, ◌+◌, List, [], ◌∷◌, ◌++◌, Option, Some, None, map, slice_get, refl}
use Rattle.std.specs.List.{range_with_len}
use Rattle.std.proofs.lemmas.Bool.{leb-true}
use Rattle.av_base.specs.declared.width.Width.{Width}
use Rattle.av_net.specs.declared.operation.Operand.TheVariants.{Name}
use Rattle.av_net.specs.declared.operation.Operation.TheVariants.{Plain}
use Rattle.av_net.specs.declared.netlist.Port.{Port}
use Rattle.av_net.specs.declared.netlist.Drive.{Drive}
use Rattle.av_net.specs.declared.netlist.Step.{Step}
use Rattle.av_kinds.specs.Programs.{Lane, Program}
use Rattle.av_kinds.specs.Names.{Naming, Labels, line_name, output_name}

abbrev pub port : Width → List ℕ → Port
port w name = record { name = name; width = w }

-- ---- ports

-- ports of these widths, with numbers from k on
abbrev pub numbered_ports : Naming → ℕ → List Width → List Port
numbered_ports name k [] = []
numbered_ports name k (w ∷ widths) = port w (name k) ∷ numbered_ports name (k + 1) widths

abbrev pub one_bit : Width
one_bit = record { bits = 1; least = leb-true 1 1 refl; most = leb-true 1 64 refl }

abbrev pub width_in : Option Lane → Width
width_in None = one_bit
width_in (Some lane) = lane.width

-- as wide as the words of the lanes
abbrev pub output_widths : Program → List Width
output_widths program = map (λ q. width_in (slice_get program.lanes q)) program.outputs

-- each has the word of its lane
abbrev pub output_drives : Labels → ℕ → List ℕ → List Drive
output_drives names k [] = []
output_drives names k (q ∷ outputs) = record { target = output_name k; operation = Plain (Name (names.value q)) } ∷ output_drives names (k + 1) outputs

-- ---- lanes, with numbers from q on

abbrev pub lane_wires : Labels → ℕ → List Lane → List Port
lane_wires names q [] = []
lane_wires names q (lane ∷ lanes) = port lane.width (names.value q) ∷ lane_wires names (q + 1) lanes

-- a register for each cycle of the greatest delay
abbrev pub lane_registers : Labels → ℕ → List Lane → List Port
lane_registers names q [] = []
lane_registers names q (lane ∷ lanes) = map (λ d. port lane.width (names.register q d)) (range_with_len 0 lane.length) ++ lane_registers names (q + 1) lanes

-- each takes what has the word of one cycle less
abbrev pub line_step : Labels → ℕ → ℕ → Step
line_step names q d = record { register = names.register q d; reset = 0; next = Name (line_name names q d) }

abbrev pub lane_steps : Labels → ℕ → List Lane → List Step
lane_steps names q [] = []
lane_steps names q (lane ∷ lanes) = map (line_step names q) (range_with_len 0 lane.length) ++ lane_steps names (q + 1) lanes
