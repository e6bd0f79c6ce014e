-- Words by name: the words of a module's ports, registers, outputs and wires stand in a list, in the
-- order of its declarations.
use Rattle.std.specs.Prelude.{ℕ, List, [], ◌∷◌, if◌then◌else◌}
use Rattle.std.specs.Str.{bytes_eq}
use Rattle.av_net.specs.declared.netlist.Module.{Module}
use Rattle.av_net.specs.Meaning.{Words}
use Rattle.av_net.specs.Names.{all_names, width_of}
use Rattle.av_net.specs.Settled.{FitAt}

-- the word beside the first such name, or 0
abbrev pub looked_up : List (List ℕ) → List ℕ → List ℕ → ℕ
looked_up (other ∷ names) (word ∷ words) name = if bytes_eq other name then word else looked_up names words name
looked_up [] words name = 0
looked_up (other ∷ names) [] name = 0

-- the word of each of a module's names
abbrev pub named : Module → List ℕ → Words
named m words = looked_up (all_names m) words

-- each word fits the width of its name
abbrev pub AllFit : Module → List ℕ → Type 0
AllFit m words = FitAt (width_of m) (all_names m) (named m words)
