-- A plan with two kinds of cells and three instances: a sum of words, 5 more, and that word made wider.
use Rattle.std.specs.Prelude.{ℕ, ℤ, negsuc, List, [], ◌∷◌, codes, refl}
use Rattle.std.proofs.lemmas.Bool.{leb-true}
use Rattle.av_base.specs.declared.width.Width.{Width}
use Rattle.av_net.specs.declared.operation.Symbol.TheVariants.{Add}
use Rattle.av_net.specs.declared.operation.Operand.{Operand}
use Rattle.av_net.specs.declared.operation.Operand.TheVariants.{Name, Literal}
use Rattle.av_net.specs.declared.operation.Operation.{Operation}
use Rattle.av_net.specs.declared.operation.Operation.TheVariants.{Binary, Part, Widen}
use Rattle.av_net.specs.declared.design.Entry.{Entry}
use Rattle.av_net.specs.declared.design.Listing.{Listing}
use Rattle.av_net.specs.declared.netlist.Port.{Port}
use Rattle.av_net.specs.declared.netlist.Drive.{Drive}
use Rattle.av_net.specs.declared.netlist.Step.{Step}
use Rattle.av_net.specs.declared.netlist.Module.{Module}
use Rattle.av_net.specs.declared.plan.CellKind.{CellKind}
use Rattle.av_net.specs.declared.plan.Instance.{Instance}
use Rattle.av_net.specs.declared.plan.Plan.{Plan}

abbrev pub two_bits : Width
two_bits = record { bits = 2; least = leb-true 1 2 refl; most = leb-true 2 64 refl }

abbrev pub four_bits : Width
four_bits = record { bits = 4; least = leb-true 1 4 refl; most = leb-true 4 64 refl }

abbrev pub eight_bits : Width
eight_bits = record { bits = 8; least = leb-true 1 8 refl; most = leb-true 8 64 refl }

abbrev pub port_of : List ℕ → Width → Port
port_of name width = record { name = name; width = width }

abbrev pub drive_of : List ℕ → Operation → Drive
drive_of target operation = record { target = target; operation = operation }

abbrev pub entry_of : List ℕ → List ℤ → List ℕ → ℕ → Entry
entry_of variable point wire cycle = record { variable = variable; point = point; wire = wire; cycle = cycle }

abbrev pub instance_of : List ℕ → ℕ → List Operand → List (List ℕ) → Instance
instance_of name kind inputs outputs = record { name = name; kind = kind; inputs = inputs; outputs = outputs }

abbrev pub cell_of : List ℕ → List Port → Port → Operation → CellKind
cell_of name inputs output operation = record {
  name = name;
  inputs = inputs;
  outputs = output ∷ [];
  wires = [];
  drives = drive_of output.name operation ∷ [];
}

-- v = a + b
abbrev pub adder : CellKind
adder = cell_of (codes "add") (port_of (codes "a") four_bits ∷ port_of (codes "b") four_bits ∷ []) (port_of (codes "v") four_bits) (Binary (Name (codes "a")) Add (Name (codes "b")))

-- v = a with four copies of its sign
abbrev pub widener : CellKind
widener = cell_of (codes "widen") (port_of (codes "a") four_bits ∷ []) (port_of (codes "v") eight_bits) (Widen (codes "a") 4)

-- ---- the top

abbrev pub upper_half : Drive
upper_half = drive_of (codes "p") (Part (codes "q") 3 2)

abbrev pub kept_sum : Step
kept_sum = record { register = codes "q"; reset = 9; next = Name (codes "c") }

abbrev pub sums_top : Module
sums_top = record {
  name = codes "t";
  inputs = port_of (codes "i") four_bits ∷ [];
  outputs = port_of (codes "o") eight_bits ∷ port_of (codes "p") two_bits ∷ [];
  wires = port_of (codes "c") four_bits ∷ port_of (codes "d") four_bits ∷ [];
  registers = port_of (codes "q") four_bits ∷ [];
  drives = upper_half ∷ [];
  steps = kept_sum ∷ [];
}

-- ---- its instances

-- c = i + q
abbrev pub first_sum : Instance
first_sum = instance_of (codes "u0") 0 (Name (codes "i") ∷ Name (codes "q") ∷ []) (codes "c" ∷ [])

-- d = c + 5
abbrev pub second_sum : Instance
second_sum = instance_of (codes "u1") 0 (Name (codes "c") ∷ Literal four_bits 5 ∷ []) (codes "d" ∷ [])

-- o = d, made wider
abbrev pub wide_sum : Instance
wide_sum = instance_of (codes "u2") 1 (Name (codes "d") ∷ []) (codes "o" ∷ [])

abbrev pub sums_instances : List Instance
sums_instances = first_sum ∷ second_sum ∷ wide_sum ∷ []

-- ---- the plan

abbrev pub input_entry : Entry
input_entry = entry_of (codes "X") [] (codes "i") 0

abbrev pub output_entry : Entry
output_entry = entry_of (codes "Y") (negsuc 0 ∷ []) (codes "o") 2

abbrev pub sums_listing : Listing
sums_listing = record { ins = input_entry ∷ []; ats = output_entry ∷ [] }

abbrev pub sums_plan : Plan
sums_plan = record { listing = sums_listing; kinds = adder ∷ widener ∷ []; top = sums_top; instances = sums_instances }
