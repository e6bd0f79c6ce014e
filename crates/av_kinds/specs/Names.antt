-- The names of an array's ports, wires and registers, and those in a kind: a letter with a number, which may be the number of a cell with a
-- second number.
use Rattle.std.specs.Prelude.{ℕ, suc, zero, ◌+◌, ◌*◌, nat_eq, List, [], ◌++◌, codes, decimal, Option, Some, None, slice_get, if◌then◌else◌}
use Rattle.av_kinds.specs.Programs.{Lane, Program}

-- the name with each number
abbrev pub Naming : Type 0
Naming = ℕ → List ℕ

abbrev pub numbered : List ℕ → Naming
numbered letter n = letter ++ decimal n

-- ---- the top module

-- as `i0`, in kinds too
abbrev pub input_name : Naming
input_name n = numbered (codes "i") n

-- as `o0`
abbrev pub output_name : Naming
output_name n = numbered (codes "o") n

-- as `c0`
abbrev pub value_name : Naming
value_name p = numbered (codes "c") p

-- as `c0_1`
abbrev pub wire_name : ℕ → Naming
wire_name p n = numbered (codes "c") p ++ numbered (codes "_") n

-- as `r0_1`
abbrev pub register_name : ℕ → Naming
register_name p n = numbered (codes "r") p ++ numbered (codes "_") n

-- as `u0`
abbrev pub instance_name : Naming
instance_name p = numbered (codes "u") p

-- ---- the lanes of a program: those of one cell share its numbers, of which a lane has those that leave its rank

abbrev pub number_in : ℕ → Lane → ℕ → ℕ
number_in stride lane n = lane.rank + stride * n

abbrev pub lane_value : ℕ → Lane → List ℕ
lane_value stride lane = if nat_eq lane.rank 0 then value_name lane.home else wire_name lane.home (number_in stride lane 0)

abbrev pub lane_register : ℕ → ℕ → Lane → List ℕ
lane_register stride d lane = register_name lane.home (number_in stride lane d)

-- the names of all lanes: of the word, and of the registers
pub record Labels : Type 0 where
  pub value : ℕ → List ℕ
  pub register : ℕ → ℕ → List ℕ

abbrev pub label_in : (Lane → List ℕ) → Option Lane → List ℕ
label_in f None = []
label_in f (Some lane) = f lane

abbrev pub labels : Program → Labels
labels program = record {
  value = λ q. label_in (lane_value program.stride) (slice_get program.lanes q);
  register = λ q d. label_in (lane_register program.stride d) (slice_get program.lanes q);
}

-- what has the word of the lane of so many cycles before
abbrev pub line_name : Labels → ℕ → ℕ → List ℕ
line_name names q zero = names.value q
line_name names q (suc d) = names.register q d

-- ---- kinds

-- as `k0`
abbrev pub kind_name : Naming
kind_name n = numbered (codes "k") n

-- a word that comes from a line, as `t0`
abbrev pub tap_name : Naming
tap_name n = numbered (codes "t") n

-- a number that the counter is compared with, as `b0`
abbrev pub bound_name : Naming
bound_name n = numbered (codes "b") n

-- the word of a pipeline, as `p0`
abbrev pub pipe_name : Naming
pipe_name n = numbered (codes "p") n

-- the wires of a lane, as `w0`: those of the lanes before have the smaller numbers
abbrev pub inner_name : ℕ → Naming
inner_name first n = numbered (codes "w") (first + n)

abbrev pub kind_value : List ℕ
kind_value = codes "v"

-- whatever counts in the top module
abbrev pub kind_counter : List ℕ
kind_counter = codes "cyc"
