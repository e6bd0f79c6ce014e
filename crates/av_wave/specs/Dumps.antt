-- The text of a wave as a value change dump (IEEE 1364-2005, 18.2, of which this is a subset: one scope, wires alone, two states).
use Rattle.std.specs.Prelude.{ℕ, zero, suc, false, ◌+◌, ◌/◌, ◌%◌, ◌==◌, if◌then◌else◌, List, [], ◌∷◌, ◌++◌, map, codes, decimal, slice_get, Option, Some, None}
use Rattle.std.specs.Fmt.{digits}
use Rattle.std.specs.List.{flat_map, range_with_len}
use Rattle.av_net.specs.declared.netlist.Port.{Port}
use Rattle.av_wave.specs.declared.wave.Change.{Change}
use Rattle.av_wave.specs.Waves.{Recording, changes_in}

-- ---- numbers

-- the digits of n to the base 94, the lowest first, each from `!` on, for a number with at most so many digits
abbrev pub code_of : ℕ → ℕ → List ℕ
code_of zero n = []
code_of (suc most) n = (33 + n % 94) ∷ (if n / 94 == 0 then [] else code_of most (n / 94))

-- the code of port n, which has no more than n + 1 digits
unfoldable pub code : ℕ → List ℕ
code n = code_of (suc n) n

-- in binary, without leading zeros
abbrev pub binary : ℕ → List ℕ
binary n = digits 2 false n

-- ---- lines

abbrev pub timescale_line : List ℕ
timescale_line = codes "$timescale 1ns $end\n"

-- as `$scope module array $end`
abbrev pub scope_line : List ℕ → List ℕ
scope_line name = codes "$scope module " ++ name ++ codes " $end\n"

-- as `$var wire 8 ! i0 $end`
abbrev pub port_line : ℕ → Port → List ℕ
port_line number port = codes "$var wire " ++ decimal port.width.bits ++ codes " " ++ code number ++ codes " " ++ port.name ++ codes " $end\n"

-- of ports that have the numbers from n on
abbrev pub port_lines : ℕ → List Port → List (List ℕ)
port_lines n [] = []
port_lines n (port ∷ ports) = port_line n port ∷ port_lines (n + 1) ports

abbrev pub upscope_line : List ℕ
upscope_line = codes "$upscope $end\n"

abbrev pub definitions_line : List ℕ
definitions_line = codes "$enddefinitions $end\n"

-- as `#12`
abbrev pub time_line : ℕ → List ℕ
time_line cycle = codes "#" ++ decimal cycle ++ codes "\n"

-- as `b101 !`, or as `1!` where the port has one bit
abbrev pub value_line : Port → ℕ → ℕ → List ℕ
value_line port number value = (if port.width.bits == 1 then binary value else codes "b" ++ binary value ++ codes " ") ++ code number ++ codes "\n"

abbrev pub value_line_at : Option Port → ℕ → ℕ → List ℕ
value_line_at None number value = []
value_line_at (Some port) number value = value_line port number value

-- the line of a change of one of these ports
abbrev pub change_line : List Port → Change → List ℕ
change_line ports g = value_line_at (slice_get ports g.port) g.port g.value

-- ---- the text

-- the lines before the first cycle
abbrev pub head_lines : List ℕ → List Port → List (List ℕ)
head_lines name ports = timescale_line ∷ scope_line name ∷ (port_lines 0 ports ++ upscope_line ∷ definitions_line ∷ [])

-- the line that begins a cycle, and those of its changes
abbrev pub cycle_lines : List Port → List Change → ℕ → List (List ℕ)
cycle_lines ports changes cycle = time_line cycle ∷ map (change_line ports) (changes_in cycle changes)

-- the lines of the cycles, and a last one with their number
abbrev pub dump_lines : Recording → List (List ℕ)
dump_lines w = head_lines w.name w.ports ++ flat_map (cycle_lines w.ports w.changes) (range_with_len 0 w.cycles) ++ time_line w.cycles ∷ []

-- the bytes of the lines
abbrev pub joined : List (List ℕ) → List ℕ
joined lines = flat_map (λ line. line) lines

abbrev pub dump_text : Recording → List ℕ
dump_text w = joined (dump_lines w)
