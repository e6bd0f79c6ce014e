-- The quantities that an array is bounded by.
use Rattle.std.specs.Prelude.{◌≡◌, ◌≢◌, ℕ, suc, ◌+◌, pos, ◌<ℤ◌, ◌≤◌, List, AllPairs, Contains, IsTrue, Some, slice_get, length, map, sum}
use Rattle.av_tree.specs.Points.{Point}
use Rattle.av_flat.specs.Trees.{Tree, Piece, Variable, FlatSystem, reference, constant, binary, choice, pick}
use Rattle.av_flat.specs.Points.{has}
use Rattle.av_space.specs.Coordinates.{Placing}
use Rattle.av_space.specs.declared.cells.Cell.{Cell}
use Rattle.av_flat.specs.declared.timed.Time.{Time}
use Rattle.av_flat.specs.Nodes.{nodes, IsComputation}
use Rattle.av_flat.specs.Schedules.{cycle}
use Rattle.av_space.specs.Occupancy.{Computes}

-- n is above each cycle of a computation, and the least such number
pub record IsCycleCount (s : FlatSystem) (times : List Time) (n : ℕ) : Type 0 where
  pub above : (k : ℕ) (z : Point) (t : Time) → IsComputation s k z → slice_get times k ≡ Some t → cycle t z <ℤ pos n
  pub least : (m : ℕ) → ((k : ℕ) (z : Point) (t : Time) → IsComputation s k z → slice_get times k ≡ Some t → cycle t z <ℤ pos m) → n ≤ m

-- references, constants, operators, choices and picks
abbrev pub size : Tree → ℕ
size (reference place m) = 1
size (constant n) = 1
size (binary g l r) = suc (size l + size r)
size (choice l c r x y) = suc (size l + size r + size x + size y)
size (pick place choices n) = 1
size _ = 0

-- a piece with a computation on a cell
pub record Use : Type 0 where
  pub cell : ℕ
  pub piece : ℕ

pub record IsUse (s : FlatSystem) (times : List Placing) (cells : List Cell) (u : Use) (piece : Piece) : Type 0 where
  pub cycle : ℕ
  pub node : ℕ
  pub point : Point
  pub computes : Computes s times cells u.cell cycle node point
  pub variable : Variable
  pub is_variable : slice_get (nodes s) node ≡ Some variable
  pub is_piece : slice_get variable.pieces u.piece ≡ Some piece
  pub within : IsTrue (has piece.domain point)

-- each piece on each cell once, and the sizes of their trees together
pub record IsOperatorCount (s : FlatSystem) (times : List Placing) (cells : List Cell) (n : ℕ) : Type 0 where
  pub uses : List Use
  pub pieces : List Piece
  pub paired : length pieces ≡ length uses
  pub each : (k : ℕ) (u : Use) (piece : Piece) → slice_get uses k ≡ Some u → slice_get pieces k ≡ Some piece → IsUse s times cells u piece
  pub all : (u : Use) (piece : Piece) → IsUse s times cells u piece → Contains uses u
  pub once : AllPairs (λ a b. a ≢ b) uses
  pub total : n ≡ sum (map (λ (p : Piece). size p.tree) pieces)
