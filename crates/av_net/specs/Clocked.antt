-- Runs of a module from reset: at each rising edge of `clk` all registers change together, by
-- nonblocking assignments (IEEE 1364-2005, 9.2.2 and 9.7.2). The edge is the one atomic step.
use Rattle.std.specs.Prelude.{◌≡◌, ℕ, ◌<◌, ◌+◌, Bool, true, false, if◌then◌else◌, All}
use Rattle.av_base.specs.Words.{IsWord}
use Rattle.av_net.specs.declared.netlist.Module.{Module}
use Rattle.av_net.specs.Meaning.{Words, word_of}
use Rattle.av_net.specs.Settled.{Settled}

-- the words at the input ports, at the reset edge and then in each cycle
pub record Stream : Type 0 where
  pub on_reset : Words
  pub in_cycle : ℕ → Words

-- the words of all names, before the reset edge and then in each cycle
pub record Run : Type 0 where
  pub before : Words
  pub in_cycle : ℕ → Words

-- the input ports have these words
abbrev pub Carries : Module → Words → Words → Type 0
Carries m ports v = All (λ port. v port.name ≡ ports port.name) m.inputs

-- these words fit the input ports
abbrev pub FitPorts : Module → Words → Type 0
FitPorts m ports = All (λ port. IsWord port.width.bits (ports port.name)) m.inputs

-- one edge, with reset or without it: each register takes its literal or its operand's old word
abbrev pub Edge : Module → Bool → Words → Words → Type 0
Edge m reset old new = All (λ step. new step.register ≡ (if reset then step.reset else word_of old step.next)) m.steps

-- a run of n cycles under a stream, from any words of the registers
pub record IsRun (m : Module) (n : ℕ) (stream : Stream) (run : Run) : Type 0 where
  pub reset : Edge m true run.before (run.in_cycle 0)
  pub ports : (c : ℕ) → c < n → Carries m (stream.in_cycle c) (run.in_cycle c)
  pub settled : (c : ℕ) → c < n → Settled m (run.in_cycle c)
  pub edges : (c : ℕ) → c + 1 < n → Edge m false (run.in_cycle c) (run.in_cycle (c + 1))
