-- The wave of a run.
use Rattle.std.specs.Prelude.{◌≡◌, ℕ, ◌<◌, ◌≤◌, List, Option, slice_get, Some, All, AllPairs}
use Rattle.av_base.specs.Outside.{Adds, AddsPrefix}
use Rattle.av_base.specs.Words.{IsWord}
use Rattle.av_net.specs.declared.netlist.Port.{Port}
use Rattle.av_net.specs.declared.netlist.Module.{Module}
use Rattle.av_net.specs.Meaning.{Words}
use Rattle.av_net.specs.Clocked.{Stream, Run, IsRun}
use Rattle.av_data.specs.declared.stimulus.Given.{Given}
use Rattle.av_data.specs.declared.stimulus.Stimulus.{Stimulus}
use Rattle.av_data.specs.Stimuli.{IsBefore}
use Rattle.av_wave.specs.Simulated.{header_ports, IsStimulated}
use Rattle.av_wave.specs.Waves.{Recording, IsWave, values_in}
use Rattle.av_wave.specs.Dumps.{dump_text}

-- the value is for an input port, and fits it
abbrev pub IsForPort : List Port → Given → Type 0
IsForPort inputs g = (port : Port) × (slice_get inputs g.port ≡ Some port) × IsWord port.width.bits g.value

-- values for these input ports, one for each port and cycle at most, over no more cycles than a stimulus may have
pub record IsFor (inputs : List Port) (s : Stimulus) : Type 0 where
  pub most : s.cycles ≤ 4096
  pub ascending : AllPairs IsBefore s.values
  pub fit : All (IsForPort inputs) s.values

-- the wave of the ports of a module, `clk` and `rst` apart, over n cycles that have these words
pub record IsRecorded (m : Module) (in_cycle : ℕ → Words) (n : ℕ) (w : Recording) : Type 0 where
  pub is : IsWave w
  pub name : w.name ≡ m.name
  pub ports : w.ports ≡ header_ports m
  pub cycles : w.cycles ≡ n
  pub values : (c k : ℕ) (port : Port) → c < n → slice_get (header_ports m) k ≡ Some port → values_in w.changes c k ≡ in_cycle c port.name

-- the wave of the run of a module under a stimulus, whose registers are 0 before the reset edge
pub record IsCaptured (m : Module) (s : Stimulus) (w : Recording) : Type 0 where
  pub stream : Stream
  pub run : Run
  pub stimulated : IsStimulated m s stream
  pub powered : All (λ port. run.before port.name ≡ 0) m.registers
  pub clocked : IsRun m s.cycles stream run
  pub recorded : IsRecorded m run.in_cycle s.cycles w

-- the dump of that wave was added
pub record AddsDump (m : Module) (s : Stimulus) (held held' : Option (List ℕ)) : Type 0 where
  pub wave : Recording
  pub captured : IsCaptured m s wave
  pub added : Adds held held' (dump_text wave)

-- a prefix of it was added
pub record AddsDumpPrefix (m : Module) (s : Stimulus) (held held' : Option (List ℕ)) : Type 0 where
  pub wave : Recording
  pub captured : IsCaptured m s wave
  pub added : AddsPrefix held held' (dump_text wave)
