-- How a module is clocked in lanes, each under a stimulus of its own.
use Rattle.std.specs.Prelude.{◌≡◌, ℕ, ◌<◌, ◌≤◌, List, length, drop, Some, slice_get, slice_index}
use Rattle.av_data.specs.declared.stimulus.Stimulus.{Stimulus}
use Rattle.av_net.specs.declared.design.Entry.{Entry}
use Rattle.av_net.specs.declared.netlist.Module.{Module}
use Rattle.av_net.specs.declared.netlist.Port.{Port}
use Rattle.av_net.specs.Clocked.{Stream, Run, IsRun}
use Rattle.av_lanes.specs.Seen.{Seen, lane, carried}
use Rattle.av_wave.specs.Clocking.{AreLeft}
use Rattle.av_wave.specs.Simulated.{IsStimulated, given_word}
use Rattle.av_commands.specs.inner.Watching.{watched}

-- of each stimulus the values from its place on are left for this port and cycle and all later ones
pub record AreLeftInLanes (inputs : List Port) (stimuli : List Stimulus) (cycle port : ℕ) (next : List ℕ) : Type 0 where
  pub within : (k : ℕ) (s : Stimulus) → slice_get stimuli k ≡ Some s → slice_index next k ≤ length s.values
  pub left : (k : ℕ) (s : Stimulus) → slice_get stimuli k ≡ Some s → AreLeft inputs s.values cycle port (drop (slice_index next k) s.values)

-- the first n input ports have in each lane what its stimulus gives them in this cycle
abbrev pub ArePresentedInLanes : Module → List Stimulus → ℕ → ℕ → Seen → Type 0
ArePresentedInLanes m stimuli cycle n lanes =
    (k : ℕ) (s : Stimulus) → slice_get stimuli k ≡ Some s → (i : ℕ) (port : Port) → i < n → slice_get m.inputs i ≡ Some port → carried k lanes port.name ≡ given_word s.values cycle i

-- the words in the lanes are for each stimulus those on the wires of the lines in each run under it
abbrev pub AreInLanes : Module → List Stimulus → List Entry → List (List ℕ) → Type 0
AreInLanes m stimuli lines rows =
    (k : ℕ) (s : Stimulus) → slice_get stimuli k ≡ Some s → (stream : Stream) (run : Run) → IsStimulated m s stream → IsRun m s.cycles stream run
    → lane k rows ≡ watched run.in_cycle s.cycles lines
