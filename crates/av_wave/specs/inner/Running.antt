-- What is needed to write a run while it is clocked, and what comes of it.
use Rattle.std.specs.Prelude.{◌≡◌, length}
use Rattle.av_base.specs.Outside.{SinkState}
use Rattle.av_page.specs.Pages.{Draft, Puts}
use Rattle.av_net.specs.declared.netlist.Module.{Module}
use Rattle.av_net.specs.Sound.{IsSound}
use Rattle.av_data.specs.declared.stimulus.Stimulus.{Stimulus}
use Rattle.av_wave.specs.Waves.{Recording}
use Rattle.av_wave.specs.Dumps.{dump_text}
use Rattle.av_wave.specs.Simulated.{header_ports}
use Rattle.av_wave.specs.Clocking.{AreWires}
use Rattle.av_wave.specs.Recorded.{IsCaptured}
use Rattle.av_wave.specs.declared.run.PreparedRun.{PreparedRun}

-- everything is there to clock the module, and to tell the words of its ports
pub record IsPrepared (m : Module) (p : PreparedRun) : Type 0 where
  pub sound : IsSound m
  pub clock : p.clock.of ≡ m
  pub ports : p.ports ≡ header_ports m
  pub wires : AreWires m (length m.outputs) p.wires
  pub room : length p.words ≡ length (header_ports m)
  pub count : p.inputs ≡ length m.inputs

-- the dump of the wave of a run was put on a page
pub record PutsDump (m : Module) (s : Stimulus) (sink sink' : SinkState) (old new : Draft) : Type 0 where
  pub wave : Recording
  pub captured : IsCaptured m s wave
  pub put : Puts sink sink' old new (dump_text wave)
