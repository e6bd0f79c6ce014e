-- Operators of some of the pieces on cells, and the sizes of the trees of all pieces of a variable.
use Rattle.std.specs.Prelude.{◌≡◌, ◌≢◌, ℕ, List, AllPairs, Contains, Some, slice_get, length, map, sum}
use Rattle.av_flat.specs.Trees.{Piece, Variable, FlatSystem}
use Rattle.av_space.specs.declared.cells.Cell.{Cell}
use Rattle.av_space.specs.Coordinates.{Placing}
use Rattle.av_space.specs.Quantities.{size, Use, IsUse}

-- each of these pieces on cells once, and the sizes of their trees together
pub record IsCountOf (s : FlatSystem) (placings : List Placing) (cells : List Cell) (P : Use → Type 0) (n : ℕ) : Type 0 where
  pub uses : List Use
  pub pieces : List Piece
  pub paired : length pieces ≡ length uses
  pub each : (k : ℕ) (u : Use) (piece : Piece) → slice_get uses k ≡ Some u → slice_get pieces k ≡ Some piece → P u × IsUse s placings cells u piece
  pub all : (u : Use) (piece : Piece) → P u → IsUse s placings cells u piece → Contains uses u
  pub once : AllPairs (λ a b. a ≢ b) uses
  pub total : n ≡ sum (map (λ (p : Piece). size p.tree) pieces)

-- the pieces on the cell
abbrev pub IsOnCell : ℕ → Use → Type 0
IsOnCell p u = u.cell ≡ p

abbrev pub piece_sizes : Variable → List ℕ
piece_sizes v = map (λ (p : Piece). size p.tree) v.pieces
