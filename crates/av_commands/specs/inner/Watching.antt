-- Wires that are watched in the cycles that lines list.
use Rattle.std.specs.Prelude.{◌≡◌, ℕ, ◌<◌, List, [], ◌∷◌, length, map, if◌then◌else◌, nat_eq, nat_lt, slice_index, slice_get, Some}
use Rattle.av_base.specs.declared.word.Word.{Word}
use Rattle.av_net.specs.declared.design.Entry.{Entry}
use Rattle.av_net.specs.declared.netlist.Module.{Module}
use Rattle.av_net.specs.Meaning.{Words}
use Rattle.av_net.specs.Names.{targets_of}

abbrev pub bits_of : List Word → List ℕ
bits_of words = map (λ w. w.bits) words

-- the places of the drives of the wires of the first n lines
pub record AreTaps (m : Module) (lines : List Entry) (n : ℕ) (taps : List ℕ) : Type 0 where
  pub count : length taps ≡ n
  pub drives : (k : ℕ) (line : Entry) → k < n → slice_get lines k ≡ Some line → slice_get (targets_of m.drives) (slice_index taps k) ≡ Some line.wire

-- the words, but for the lines of this cycle the words on their wires
abbrev pub noted : Words → ℕ → List Entry → List ℕ → List ℕ
noted v cycle [] words = words
noted v cycle (line ∷ lines) [] = []
noted v cycle (line ∷ lines) (word ∷ words) = (if nat_eq line.cycle cycle then v line.wire else word) ∷ noted v cycle lines words

-- the words on the wires of the lines of earlier cycles, and 0 for the others
abbrev pub watched : (ℕ → Words) → ℕ → List Entry → List ℕ
watched in_cycle cycle lines = map (λ line. if nat_lt line.cycle cycle then in_cycle line.cycle line.wire else 0) lines
