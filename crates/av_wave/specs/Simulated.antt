-- What a stimulus presents to a module, and the lines of a run.
use Rattle.std.specs.Prelude.{◌≡◌, ℕ, zero, suc, ◌&&◌, if◌then◌else◌, nat_eq, List, [], ◌∷◌, ◌++◌, map, slice_get, Some, All}
use Rattle.av_net.specs.declared.netlist.Port.{Port}
use Rattle.av_net.specs.declared.netlist.Module.{Module}
use Rattle.av_net.specs.Meaning.{Words}
use Rattle.av_net.specs.Clocked.{Stream, Run, IsRun}
use Rattle.av_data.specs.declared.stimulus.Given.{Given}
use Rattle.av_data.specs.declared.stimulus.Stimulus.{Stimulus}
use Rattle.av_data.specs.Cycles.{cycle_line}

-- what is given to a port in a cycle, or 0
abbrev pub given_word : List Given → ℕ → ℕ → ℕ
given_word [] cycle port = 0
given_word (g ∷ values) cycle port = if nat_eq g.cycle cycle && nat_eq g.port port then g.value else given_word values cycle port

-- the ports carry what the stimulus gives them, and 0 everywhere else and at the reset edge
pub record IsStimulated (m : Module) (s : Stimulus) (stream : Stream) : Type 0 where
  pub on_reset : All (λ port. stream.on_reset port.name ≡ 0) m.inputs
  pub in_cycles : (c k : ℕ) (port : Port) → slice_get m.inputs k ≡ Some port → stream.in_cycle c port.name ≡ given_word s.values c k

-- the ports but `clk` and `rst`, in the order of the header
abbrev pub header_ports : Module → List Port
header_ports m = m.inputs ++ m.outputs

-- the words of these ports
abbrev pub port_words : Words → List Port → List ℕ
port_words v ports = map (λ port. v port.name) ports

-- the line of a cycle with these words
abbrev pub words_line : Module → Words → ℕ → List ℕ
words_line m v c = cycle_line c (header_ports m) (port_words v (header_ports m))

-- the lines of the first n cycles
abbrev pub run_lines : Module → (ℕ → Words) → ℕ → List ℕ
run_lines m in_cycle zero = []
run_lines m in_cycle (suc n) = run_lines m in_cycle n ++ words_line m (in_cycle n) n

-- these are the lines of the run of a module under a stimulus, whose registers are 0 before the reset edge
pub record AreSimulated (m : Module) (s : Stimulus) (out : List ℕ) : Type 0 where
  pub stream : Stream
  pub run : Run
  pub stimulated : IsStimulated m s stream
  pub powered : All (λ port. run.before port.name ≡ 0) m.registers
  pub clocked : IsRun m s.cycles stream run
  pub lines : out ≡ run_lines m run.in_cycle s.cycles
