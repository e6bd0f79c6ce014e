-- The wires of a cell: one for each operation that is left no other way, numbered in order.
use Rattle.std.specs.Prelude.{ℕ, ◌+◌, List, [], ◌∷◌, ◌++◌, length}
use Rattle.av_base.specs.declared.width.Width.{Width}
use Rattle.av_net.specs.declared.operation.Operand.{Operand}
use Rattle.av_net.specs.declared.operation.Operand.TheVariants.{Name}
use Rattle.av_net.specs.declared.operation.Operation.{Operation}
use Rattle.av_net.specs.declared.operation.Operation.TheVariants.{Plain, Binary, Signed, Choose, Part, Widen}
use Rattle.av_net.specs.declared.netlist.Drive.{Drive}
use Rattle.av_net.specs.declared.netlist.Port.{Port}
use Rattle.av_kinds.specs.declared.gates.LaneGate.{LaneGate}
use Rattle.av_kinds.specs.Names.{Naming}

abbrev pub gate : Width → Operation → LaneGate
gate width operation = record { width = width; operation = operation }

-- wires, and the operation that gives what they are for
pub record Built : Type 0 where
  pub gates : List LaneGate
  pub root : Operation

abbrev pub built : List LaneGate → Operation → Built
built gates root = record { gates = gates; root = root }

-- wires, and the operand that has what they are for
pub record Named : Type 0 where
  pub gates : List LaneGate
  pub operand : Operand

-- a wire for the operation, but for an operand
abbrev pub named_by : Naming → ℕ → Width → List LaneGate → Operation → Named
named_by name n w gates (Plain a) = record { gates = gates; operand = a }
named_by name n w gates (Binary a s b) = record { gates = gates ++ gate w (Binary a s b) ∷ []; operand = Name (name (n + length gates)) }
named_by name n w gates (Signed a s b) = record { gates = gates ++ gate w (Signed a s b) ∷ []; operand = Name (name (n + length gates)) }
named_by name n w gates (Choose c a b) = record { gates = gates ++ gate w (Choose c a b) ∷ []; operand = Name (name (n + length gates)) }
named_by name n w gates (Part a high low) = record { gates = gates ++ gate w (Part a high low) ∷ []; operand = Name (name (n + length gates)) }
named_by name n w gates (Widen a by) = record { gates = gates ++ gate w (Widen a by) ∷ []; operand = Name (name (n + length gates)) }

-- the wires have numbers from n on
abbrev pub named : Naming → ℕ → Width → Built → Named
named name n w b = named_by name n w b.gates b.root

-- the wires as drives
abbrev pub drives_from : Naming → ℕ → List LaneGate → List Drive
drives_from name n [] = []
drives_from name n (g ∷ gates) = record { target = name n; operation = g.operation } ∷ drives_from name (n + 1) gates

-- and as declarations
abbrev pub ports_from : Naming → ℕ → List LaneGate → List Port
ports_from name n [] = []
ports_from name n (g ∷ gates) = record { name = name n; width = g.width } ∷ ports_from name (n + 1) gates
