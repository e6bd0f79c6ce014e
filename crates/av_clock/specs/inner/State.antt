-- What a state carries.
use Rattle.std.specs.Prelude.{ℕ, List, Bool}
use Rattle.av_net.specs.declared.netlist.Module.{Module}
use Rattle.av_net.specs.Meaning.{Words}
use Rattle.av_clock.specs.declared.state.State.{State}
use Rattle.av_clock.specs.Named.{named}
use Rattle.av_clock.specs.Marked.{AreHeld}
use Rattle.av_clock.specs.Kept.{AreZero}

-- the words by name
abbrev pub named_words : State → Words
named_words s = named s.circuit s.words.items

-- what concerns drives: the circuit, the words, and the drives' marks
abbrev pub drive_state : State → Module × List ℕ × List Bool
drive_state s = (s.circuit, s.words.items, s.stale)

-- what is not marked holds
abbrev pub IsHeld : State → Type 0
IsHeld s = AreHeld s.circuit s.words.items s.stale s.due

-- drives of the constant 0 have their words
abbrev pub HasZeros : State → Type 0
HasZeros s = AreZero s.circuit s.words.items
