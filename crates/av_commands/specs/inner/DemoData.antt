-- The words of the entries of two matrices.
use Rattle.std.specs.Prelude.{◌≡◌, ℕ, ◌+◌, ◌*◌, ℤ, nat_abs, List, [], ◌∷◌, ◌++◌, Some, codes, decimal, if◌then◌else◌}
use Rattle.std.specs.List.{sum}
use Rattle.std.specs.Str.{bytes_eq}
use Rattle.av_base.specs.Words.{residue}
use Rattle.av_net.specs.declared.design.Design.{Design}
use Rattle.av_net.specs.Designs.{IsSoundDesign}
use Rattle.av_net.specs.Presented.{AreApart, HaveFittingWords}
use Rattle.av_net.specs.Shown.{Values}
use Rattle.av_space.specs.declared.cells.Cells.{Cells}
use Rattle.av_data.specs.Tables.{totals_line}
use Rattle.av_commands.specs.Shown.{AreShown}

-- an entry of the matrix A, or else of B
abbrev pub entry : List ℕ → List ℤ → ℕ
entry name [] = 0
entry name (i ∷ []) = 0
entry name (i ∷ j ∷ more) = if bytes_eq name (codes "A") then 3 * nat_abs i + 5 * nat_abs j + 1 else 7 * nat_abs i + 2 * nat_abs j + 4

abbrev pub entries : ℕ → Values
entries bits name point = Some (residue bits (entry name point))

-- ---- with the design at hand

-- a design that can be clocked on them
pub record IsEntered (design : Design) (bits : ℕ) : Type 0 where
  pub sound : IsSoundDesign design
  pub apart : AreApart design.listing.ins
  pub fitting : HaveFittingWords design (entries bits)

-- the totals of the array, and the sum of the words that the design shows of them
pub record IsSummed (cells : Cells) (design : Design) (bits : ℕ) (out : List ℕ) : Type 0 where
  pub words : List ℕ
  pub shown : AreShown design (entries bits) words
  pub lines : out ≡ totals_line cells ++ (codes "sum " ++ decimal (residue bits (sum words)) ++ codes "\n")
