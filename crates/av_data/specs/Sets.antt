-- Data sets behind a text, divided at each line `%%` (own form).
use Rattle.std.specs.Prelude.{◌≡◌, ℕ, ◌+◌, List, [], ◌∷◌}
use Rattle.av_data.specs.declared.sets.DataSet.{DataSet}
use Rattle.av_data.specs.Divisions.{lines_before, IsDivided, HasNoMark}

-- the bytes, whose first line has this number in the input, are these sets: up to the first mark, and so on behind it
pub data AreSets : List ℕ → ℕ → List DataSet → Type 0 where
  last : {bytes : List ℕ} {first : ℕ} {set : DataSet} → HasNoMark bytes → set.bytes.now ≡ bytes → set.first_line ≡ first → AreSets bytes first (set ∷ [])
  more : {bytes rest : List ℕ} {first behind : ℕ} {set : DataSet} {sets : List DataSet} → IsDivided bytes set.bytes.now rest behind → set.first_line ≡ first
      → AreSets rest (first + lines_before bytes + 1) sets → AreSets bytes first (set ∷ sets)
