-- The names of a module, and the widths that they are declared with (IEEE 1364-2005, 4.2 and 4.3). As an
-- implicit net (4.5), a name that is not declared has one bit.
use Rattle.std.specs.Prelude.{◌≢◌, ℕ, List, [], ◌∷◌, ◌++◌, map, AllPairs, Contains, codes, if◌then◌else◌}
use Rattle.std.specs.Str.{bytes_eq}
use Rattle.av_net.specs.declared.operation.Operand.{Operand}
use Rattle.av_net.specs.declared.operation.Operand.TheVariants.{Name, Literal}
use Rattle.av_net.specs.declared.netlist.Port.{Port}
use Rattle.av_net.specs.declared.netlist.Drive.{Drive}
use Rattle.av_net.specs.declared.netlist.Step.{Step}
use Rattle.av_net.specs.declared.netlist.Module.{Module}

abbrev pub clk : List ℕ
clk = codes "clk"

abbrev pub rst : List ℕ
rst = codes "rst"

abbrev pub names_of : List Port → List (List ℕ)
names_of ports = map (λ port. port.name) ports

-- the names that have their words before anything settles: input ports and registers
abbrev pub given_names : Module → List (List ℕ)
given_names m = names_of m.inputs ++ names_of m.registers

-- the names that an `assign` may drive: outputs and wires
abbrev pub wire_names : Module → List (List ℕ)
wire_names m = names_of m.outputs ++ names_of m.wires

-- all names but `clk` and `rst`
abbrev pub all_names : Module → List (List ℕ)
all_names m = given_names m ++ wire_names m

abbrev pub targets_of : List Drive → List (List ℕ)
targets_of drives = map (λ drive. drive.target) drives

abbrev pub registers_of : List Step → List (List ℕ)
registers_of steps = map (λ step. step.register) steps

-- no name stands twice
abbrev pub AreDistinct : List (List ℕ) → Type 0
AreDistinct names = AllPairs (λ name later. name ≢ later) names

-- a literal, or one of these names
abbrev pub IsAmong : List (List ℕ) → Operand → Type 0
IsAmong names (Name name) = Contains names name
IsAmong names (Literal width value) = Unit {0}

-- the width of the first port with this name, or one bit where there is none
abbrev pub width_in : List Port → List ℕ → ℕ
width_in [] name = 1
width_in (port ∷ ports) name = if bytes_eq port.name name then port.width.bits else width_in ports name

-- all declarations
abbrev pub declarations : Module → List Port
declarations m = m.inputs ++ m.registers ++ m.outputs ++ m.wires

-- the width that a name is declared with
abbrev pub width_of : Module → List ℕ → ℕ
width_of m name = width_in (declarations m) name
