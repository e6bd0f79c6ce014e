-- A run that is recorded cycle by cycle.
use Rattle.std.specs.Prelude.{◌≡◌, ℕ, ◌<◌, ◌≤◌, List, Some, length, drop, slice_get}
use Rattle.av_net.specs.declared.netlist.Port.{Port}
use Rattle.av_net.specs.declared.netlist.Module.{Module}
use Rattle.av_net.specs.Names.{names_of}
use Rattle.av_net.specs.Settled.{Agree}
use Rattle.av_net.specs.Clocked.{Run}
use Rattle.av_clock.specs.Seen.{Seen, carried}
use Rattle.av_data.specs.declared.stimulus.Stimulus.{Stimulus}
use Rattle.av_wave.specs.Waves.{values_in}
use Rattle.av_wave.specs.Simulated.{header_ports}
use Rattle.av_wave.specs.Clocking.{ForRuns, AreLeft}
use Rattle.av_wave.specs.inner.Parts.{Part, IsPart}

-- the values in the first cycles are those of the run
abbrev pub AreValues : Module → Part → ℕ → Run → Type 0
AreValues m p c run = (d k : ℕ) (port : Port) → d < c → slice_get (header_ports m) k ≡ Some port → values_in p.changes d k ≡ run.in_cycle d port.name

-- c cycles were recorded, and the registers have the words of the next one
pub record IsCapturing (m : Module) (s : Stimulus) (c : ℕ) (clock : Seen) (words : List ℕ) (p : Part) (next : ℕ) : Type 0 where
  pub of : clock.of ≡ m
  pub room : length words ≡ length (header_ports m)
  pub name : p.name ≡ m.name
  pub ports : p.ports ≡ header_ports m
  pub cycle : p.cycle ≡ c
  pub told : p.told ≡ 0
  pub values : ForRuns m s (AreValues m p c)
  pub registers : ForRuns m s (λ run. c < s.cycles → Agree (names_of m.registers) (carried clock) (run.in_cycle c))
  pub left : AreLeft m.inputs s.values c 0 (drop next s.values)
  pub within : next ≤ length s.values

-- all cycles were recorded
pub record IsWhole (m : Module) (s : Stimulus) (p : Part) : Type 0 where
  pub part : IsPart p
  pub clock : Seen
  pub words : List ℕ
  pub next : ℕ
  pub so_far : IsCapturing m s s.cycles clock words p next
