-- Marks of drives and steps, and what setting and clearing them leaves as it was.
use Rattle.std.specs.Prelude.{◌≡◌, ◌⊎◌, ℕ, ◌<◌, List, ◌++◌, length, take, slice_index, slice_index_or, Bool, true, false, Contains}
use Rattle.av_net.specs.declared.operation.Operand.{Operand}
use Rattle.av_net.specs.declared.netlist.Drive.{Drive}
use Rattle.av_net.specs.declared.netlist.Step.{Step}
use Rattle.av_net.specs.declared.netlist.Module.{Module}
use Rattle.av_net.specs.Meaning.{Words, word_of, result_of, EachOperand}
use Rattle.av_net.specs.Names.{given_names, targets_of, width_of}
use Rattle.av_clock.specs.Marked.{IsClear}
use Rattle.av_clock.specs.Named.{named}

-- the mark is set
abbrev pub IsSet : List Bool → ℕ → Type 0
IsSet marks k = slice_index_or marks k false ≡ true

-- what is not marked now was not marked before, and reads the words that it read
pub record ReadTheSame (m : Module) (words words' : List ℕ) (stale stale' due due' : List Bool) : Type 0 where
  pub drives : (k : ℕ) (d : Drive) → k < length m.drives → IsClear stale' k
      → IsClear stale k × (result_of (width_of m) (named m words') (slice_index_or m.drives k d).operation ≡ result_of (width_of m) (named m words) (slice_index_or m.drives k d).operation)
  pub steps : (k : ℕ) (d : Step) → k < length m.steps → IsClear due' k
      → IsClear due k × (word_of (named m words') (slice_index_or m.steps k d).next ≡ word_of (named m words) (slice_index_or m.steps k d).next)

-- the operand has the word that it had
abbrev pub KeepsWord : Words → Words → Operand → Type 0
KeepsWord v v' operand = word_of v operand ≡ word_of v' operand

-- no drive is marked that was not, but one of which an operand has another word
abbrev pub AreTouched : Module → List ℕ → List ℕ → List Bool → List Bool → Type 0
AreTouched m words words' stale stale' =
    (k : ℕ) (d : Drive) → k < length m.drives → IsClear stale k → EachOperand (KeepsWord (named m words) (named m words')) (slice_index_or m.drives k d).operation → IsClear stale' k

-- no drive is marked for which this name is not known yet
abbrev pub AreAhead : Module → List ℕ → List Bool → List Bool → Type 0
AreAhead m name stale stale' =
    (k : ℕ) → IsClear stale k → (Contains (given_names m ++ targets_of (take k m.drives)) name → ⊥) → IsClear stale' k

-- the first of these steps, as many as are counted, have these words beside them, and the register of any other has its word already
pub record AreDue (m : Module) (v : Words) (word : ℕ → ℕ) (taken next : List ℕ) (count : ℕ) : Type 0 where
  pub words : (j : ℕ) → j < count → slice_index next j ≡ word (slice_index taken j)
  pub others : (i : ℕ) (d : Step) → i < length m.steps → ((j : ℕ) × (j < count) × (slice_index taken j ≡ i)) ⊎ (v (slice_index_or m.steps i d).register ≡ word i)
