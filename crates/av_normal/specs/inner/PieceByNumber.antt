-- A part of a tree chosen by its number. Only private contracts cite this.
use Rattle.std.specs.Prelude.{◌≡◌, ◌<◌, ◌≤◌, ◌/◌, ◌%◌, ◌*◌, ℕ, Bool, ◌++◌, List}
use Rattle.av_affine.specs.declared.form.Form.{Form}
use Rattle.av_affine.specs.declared.map.Map.{Map}
use Rattle.av_flat.specs.Trees.{Tree, Trees}
use Rattle.av_flat.specs.Signatures.{Signature}
use Rattle.av_flat.specs.Pieces.{parts, parts_of_all}
use Rattle.av_flat.specs.Quantities.{piece_count, piece_count_of_all}
use Rattle.av_normal.specs.inner.Numbered.{part_at}
use Rattle.av_normal.specs.inner.ReductionSets.{has_reduction}
use Rattle.av_normal.specs.inner.UnderMaps.{AreReadable}

-- there is a part with this number, from 0, and there are few
abbrev pub HasPart : Tree → ℕ → Type 0
HasPart t number = (number < piece_count t) × (piece_count t ≤ 256)

-- where there is a part with this number, its rows were put behind the old ones, and its tree was made
abbrev pub IsPartAt : List Signature → List Map → Tree → ℕ → List Form → List Form → Tree → Type 0
IsPartAt vs ds t number old new made =
    number < piece_count t → piece_count t ≤ 256 → (new ≡ old ++ (part_at (parts vs ds t) number).rows) × (made ≡ (part_at (parts vs ds t) number).tree)

-- where there is a part with this number, its rows were put behind the old ones, and it is told whether a reduction is in its tree
abbrev pub AreRowsAt : List Signature → List Map → Tree → ℕ → List Form → List Form → Bool → Type 0
AreRowsAt vs ds t number old new folds =
    number < piece_count t → piece_count t ≤ 256 → (new ≡ old ++ (part_at (parts vs ds t) number).rows) × (folds ≡ has_reduction (part_at (parts vs ds t) number).tree)

-- what a loop over branches keeps: the part is the one with a number of its own among those of the branches to come
pub record AreLeft (vs : List Signature) (ds : List Map) (all rest : Trees) (number left : ℕ) : Type 0 where
  pub readable : AreReadable vs ds rest
  pub few : piece_count_of_all rest ≤ piece_count_of_all all
  pub there : number < piece_count_of_all all → piece_count_of_all all ≤ 256 → left < piece_count_of_all rest
  pub same : piece_count_of_all all ≤ 256 → part_at (parts_of_all vs ds all) number ≡ part_at (parts_of_all vs ds rest) left

-- the numbers of four operands, of which the last is fastest, by how many parts those behind each of them have
pub record AreShares (number second third last a b c d : ℕ) : Type 0 where
  pub one : a ≡ number / second
  pub two : b ≡ number % second / third
  pub three : c ≡ number % second % third / last
  pub four : d ≡ number % second % third % last

-- the same where the last three have so many parts
abbrev pub AreFourNumbers : ℕ → ℕ → ℕ → ℕ → ℕ → ℕ → ℕ → ℕ → Type 0
AreFourNumbers number r x y one two three four = 0 < r * (x * y) → r * (x * y) ≤ 256 → AreShares number (r * (x * y)) (x * y) y one two three four
