-- The names of a lane: in a kind by the lanes before it, in the top module by its cell, its rank and the stride of its program.
use Rattle.std.specs.Prelude.{◌≡◌, ℕ, suc, zero, ◌+◌, ◌*◌, nat_eq, List, if◌then◌else◌}
use Rattle.av_net.specs.declared.operation.Operand.TheVariants.{Name}
use Rattle.av_net.specs.declared.netlist.Step.{Step}
use Rattle.av_kinds.specs.declared.naming.LaneNames.{LaneNames}
use Rattle.av_kinds.specs.declared.naming.WireNames.{WireNames}
use Rattle.av_kinds.specs.Names.{Naming, value_name, wire_name, register_name, inner_name, labels}
use Rattle.av_kinds.specs.Programs.{Program}

-- the wires of a lane of a kind
abbrev pub wire_in : WireNames → Naming
wire_in names n = inner_name names.first n

-- the numbers of a lane are those that leave its rank
abbrev pub number_of : LaneNames → ℕ → ℕ
number_of names n = names.rank + names.stride * n

abbrev pub value_in : LaneNames → List ℕ
value_in names = if nat_eq names.rank 0 then value_name names.home else wire_name names.home (number_of names 0)

abbrev pub register_in : LaneNames → ℕ → List ℕ
register_in names d = register_name names.home (number_of names d)

-- what has the word of so many cycles before
abbrev pub line_in : LaneNames → ℕ → List ℕ
line_in names zero = value_in names
line_in names (suc d) = register_in names d

abbrev pub step_in : LaneNames → ℕ → Step
step_in names d = record { register = register_in names d; reset = 0; next = Name (line_in names d) }

-- these names are those of the lane with this number
pub record IsNaming (program : Program) (q : ℕ) (names : LaneNames) : Type 0 where
  pub value : value_in names ≡ (labels program).value q
  pub register : register_in names ≡ (labels program).register q
