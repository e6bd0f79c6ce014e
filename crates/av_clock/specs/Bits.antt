-- Marks, a bit for each.
use Rattle.std.specs.Prelude.{◌≡◌, ℕ, zero, suc, ◌+◌, ◌/◌, ◌%◌, List, [], ◌∷◌, length, slice_index, Bool, ◌==◌}
use Rattle.std.specs.Int.{bit_at}
use Rattle.av_clock.specs.declared.marks.Marks.TheInside.{Inside}

-- the mark is set where its bit is 1
abbrev pub bit_mark : List ℕ → ℕ → Bool
bit_mark words k = bit_at (slice_index words (k / 64)) (k % 64) == 1

-- so many marks from one on
abbrev pub marks_from : List ℕ → ℕ → ℕ → List Bool
marks_from words from zero = []
marks_from words from (suc n) = bit_mark words from ∷ marks_from words (suc from) n

abbrev pub marks_in : Inside → List Bool
marks_in c = marks_from c.words.items 0 c.count

-- there is a bit for each mark
abbrev pub HasWords : Inside → Type 0
HasWords c = length c.words.items ≡ c.count / 64 + 1
