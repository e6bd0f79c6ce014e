-- What registers hold in one lane.
use Rattle.std.specs.Prelude.{◌≡◌, ℕ, ◌<◌, List, length, slice_index_or, Bool}
use Rattle.av_net.specs.declared.netlist.Step.{Step}
use Rattle.av_net.specs.declared.netlist.Module.{Module}
use Rattle.av_net.specs.Meaning.{word_of}
use Rattle.av_clock.specs.Marked.{IsClear}
use Rattle.av_clock.specs.Named.{named}

-- the register of each step has the word that stands for the step
abbrev pub HaveWords : Module → List ℕ → (ℕ → ℕ) → Type 0
HaveWords m words word = (i : ℕ) (d : Step) → i < length m.steps → named m words (slice_index_or m.steps i d).register ≡ word i

-- the register of each step that is not marked has its operand's word
abbrev pub HaveTaken : Module → List ℕ → List Bool → Type 0
HaveTaken m words due = (i : ℕ) (d : Step) → i < length m.steps → IsClear due i → named m words (slice_index_or m.steps i d).register ≡ word_of (named m words) (slice_index_or m.steps i d).next
