-- What `wave` writes, and what `unwave` refuses and writes. `wave` refuses what `run` refuses.
use Rattle.std.specs.Prelude.{◌≡◌, ℕ, zero, suc, List, [], ◌++◌, length, map, codes, decimal}
use Rattle.std.specs.List.{range_with_len}
use Rattle.av_tree.specs.Values.{Assignment}
use Rattle.av_flat.specs.declared.timed.Timed.{Timed}
use Rattle.av_names.specs.declared.size.Size.{Size}
use Rattle.av_net.specs.declared.plan.Plan.{Plan}
use Rattle.av_net.specs.Clocked.{Run}
use Rattle.av_net.specs.Flat.{flat_of, flat_module}
use Rattle.av_space.specs.declared.cells.Cells.{Cells}
use Rattle.av_data.specs.Cycles.{cycle_line}
use Rattle.av_wave.specs.Waves.{Recording, IsWave, values_in}
use Rattle.av_wave.specs.Dumps.{dump_text}
use Rattle.av_wave.specs.Fronts.{IsWaveFault}
use Rattle.av_wave.specs.Recorded.{IsRecorded}
use Rattle.av_commands.specs.Runs.{HasData}
use Rattle.av_commands.specs.Shown.{IsFedRun}

-- ---- `wave`

-- the dump of the ports of a plan's flat design in a run whose lines `trace` may write: on the same data, over the cycles of its array
pub record GivesDump (sizes : List Size) (bits box : ℕ) (bytes out : List ℕ) : Type 0 where
  pub timed : Timed
  pub cells : Cells
  pub plan : Plan
  pub inputs : Assignment
  pub has : HasData sizes bits box bytes timed cells plan inputs
  pub run : Run
  pub clocked : IsFedRun (flat_of plan) inputs cells.cycles run
  pub wave : Recording
  pub recorded : IsRecorded (flat_module plan) run.in_cycle cells.cycles wave
  pub text : out ≡ dump_text wave

-- ---- `unwave`

-- the values of the ports of a wave in a cycle
abbrev pub port_values : Recording → ℕ → List ℕ
port_values w cycle = map (values_in w.changes cycle) (range_with_len 0 (length w.ports))

-- the lines of the first n cycles
abbrev pub wave_lines : Recording → ℕ → List ℕ
wave_lines w zero = []
wave_lines w (suc n) = wave_lines w n ++ cycle_line n w.ports (port_values w n)

-- as `wave syntax 16`
abbrev pub wave_reason : ℕ → List ℕ
wave_reason line = codes "wave syntax " ++ decimal line

-- the bytes are no dump, and this is the first faulty line
pub record RefusesUnwave (bytes reason : List ℕ) : Type 0 where
  pub line : ℕ
  pub fault : IsWaveFault bytes line
  pub told : reason ≡ wave_reason line

-- the bytes are the dump of a wave, and these are the lines of its cycles
pub record GivesUnwave (bytes out : List ℕ) : Type 0 where
  pub wave : Recording
  pub is : IsWave wave
  pub text : bytes ≡ dump_text wave
  pub lines : out ≡ wave_lines wave wave.cycles
