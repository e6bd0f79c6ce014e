-- How a module is clocked port by port and wire by wire.
use Rattle.std.specs.Prelude.{◌≡◌, ◌⊎◌, ℕ, ◌<◌, ◌≤◌, ◌&&◌, if◌then◌else◌, nat_eq, Bool, List, [], ◌∷◌, length, slice_index, slice_get, Some, All, AllPairs}
use Rattle.av_net.specs.declared.netlist.Port.{Port}
use Rattle.av_net.specs.declared.netlist.Module.{Module}
use Rattle.av_net.specs.Meaning.{Words}
use Rattle.av_net.specs.Names.{targets_of}
use Rattle.av_net.specs.Clocked.{Stream, Run, IsRun}
use Rattle.av_data.specs.declared.stimulus.Given.{Given}
use Rattle.av_data.specs.declared.stimulus.Stimulus.{Stimulus}
use Rattle.av_data.specs.Stimuli.{IsBefore}
use Rattle.av_wave.specs.Simulated.{given_word, IsStimulated}
use Rattle.av_wave.specs.Recorded.{IsForPort}

-- what holds of each run under the stimulus
abbrev pub ForRuns : Module → Stimulus → (Run → Type 0) → Type 0
ForRuns m s P = (stream : Stream) (run : Run) → IsStimulated m s stream → IsRun m s.cycles stream run → P run

-- ---- the next value

abbrev pub is_here : ℕ → ℕ → Given → Bool
is_here cycle port g = nat_eq g.cycle cycle && nat_eq g.port port

-- what the first of the values gives, where it is for this port and cycle, and else 0
abbrev pub word_next : List Given → ℕ → ℕ → ℕ
word_next [] cycle port = 0
word_next (g ∷ values) cycle port = if is_here cycle port g then g.value else 0

-- the values without that one
abbrev pub rest_next : List Given → ℕ → ℕ → List Given
rest_next [] cycle port = []
rest_next (g ∷ values) cycle port = if is_here cycle port g then values else g ∷ values

-- a later cycle, or the same one at this port or a later one
abbrev pub IsFrom : ℕ → ℕ → ℕ → ℕ → Type 0
IsFrom cycle port later other = (cycle < later) ⊎ ((cycle ≡ later) × (port ≤ other))

-- the values that are left are those for this port and cycle and all later ones
pub record AreLeft (inputs : List Port) (given : List Given) (cycle port : ℕ) (left : List Given) : Type 0 where
  pub words : (c k : ℕ) → IsFrom cycle port c k → given_word given c k ≡ given_word left c k
  pub ahead : All (λ g. IsFrom cycle port g.cycle g.port) left
  pub ascending : AllPairs IsBefore left
  pub fit : All (IsForPort inputs) left

-- ---- ports and wires

-- the first n input ports have what is given to them in this cycle, and the words are theirs
abbrev pub ArePresented : Module → List Given → ℕ → ℕ → Words → List ℕ → Type 0
ArePresented m given c n v words =
    (k : ℕ) (port : Port) → k < n → slice_get m.inputs k ≡ Some port → (v port.name ≡ given_word given c k) × (slice_index words k ≡ given_word given c k)

-- the places of the drives of the first n outputs
pub record AreWires (m : Module) (n : ℕ) (wires : List ℕ) : Type 0 where
  pub count : length wires ≡ n
  pub drives : (k : ℕ) (port : Port) → k < n → slice_get m.outputs k ≡ Some port → slice_get (targets_of m.drives) (slice_index wires k) ≡ Some port.name
