-- What is needed to clock a module.
use Rattle.std.specs.Prelude.{◌≡◌, ℕ, List, length, ◌⊎◌}
use Rattle.av_net.specs.declared.netlist.Module.{Module}
use Rattle.av_net.specs.Sound.{IsSound}
use Rattle.av_wave.specs.Clocking.{AreWires}
use Rattle.av_wave.specs.Simulated.{header_ports, IsStimulated, run_lines}
use Rattle.av_commands.specs.declared.simulation.Prepared.{Prepared}
use Rattle.av_base.specs.Outside.{SinkState}
use Rattle.av_net.specs.Clocked.{Stream, Run, IsRun}
use Rattle.av_data.specs.declared.stimulus.Stimulus.{Stimulus}
use Rattle.av_commands.specs.declared.status.Status.{Status}
use Rattle.av_commands.specs.declared.status.Status.TheVariants.{Done, Memory}
use Rattle.av_commands.specs.Written.{IsPut}

-- everything is there to clock the module
pub record IsPrepared (m : Module) (p : Prepared) : Type 0 where
  pub sound : IsSound m
  pub clock : p.clock.of ≡ m
  pub ports : p.ports ≡ header_ports m
  pub wires : AreWires m (length m.outputs) p.wires
  pub room : length p.words ≡ length (header_ports m)
  pub count : p.inputs ≡ length m.inputs

-- this holds of the lines of each run of the module under the stimulus
abbrev pub OfEachRun : Module → Stimulus → (List ℕ → Type 0) → Type 0
OfEachRun m s P = (stream : Stream) (run : Run) → IsStimulated m s stream → IsRun m s.cycles stream run → P (run_lines m run.in_cycle s.cycles)

-- the lines of each run under the stimulus were put, or memory ran out and nothing was added
abbrev pub IsClocked : Module → Stimulus → SinkState → SinkState → Status → Type 0
IsClocked m s sink sink' status = ((status ≡ Memory) × (sink'.held ≡ sink.held)) ⊎ OfEachRun m s (λ lines. IsPut sink sink' lines Done status)
