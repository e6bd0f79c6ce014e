-- Cells, and which computation stands on which cell in which cycle.
use Rattle.std.specs.Prelude.{◌≡◌, ℕ, ◌<◌, pos, ◌⊎◌, List, All, AllPairs, Contains, Some, slice_get}
use Rattle.av_tree.specs.Points.{Point}
use Rattle.av_flat.specs.Trees.{FlatSystem}
use Rattle.av_space.specs.Coordinates.{Placing, along}
use Rattle.av_space.specs.declared.cells.Cell.{Cell}
use Rattle.av_flat.specs.Order.{IsBefore}
use Rattle.av_flat.specs.Nodes.{IsComputation}
use Rattle.av_flat.specs.Schedules.{cycle}

-- the computation (n, z) stands on the cell in cycle c
pub record Occupies (s : FlatSystem) (times : List Placing) (cell : Cell) (c n : ℕ) (z : Point) : Type 0 where
  pub computation : IsComputation s n z
  pub placing : Placing
  pub is_placing : slice_get times n ≡ Some placing
  pub node : cell.node ≡ n
  pub at : cell.at ≡ along placing.rows z
  pub in_cycle : pos c ≡ cycle placing.time z

-- a cell holds some computation
abbrev pub IsUsed : FlatSystem → List Placing → Cell → Type 0
IsUsed s times cell = (c n : ℕ) × (z : Point) × Occupies s times cell c n z

-- by node, then by coordinates
abbrev pub IsCellBefore : Cell → Cell → Type 0
IsCellBefore a b = (a.node < b.node) ⊎ ((a.node ≡ b.node) × IsBefore a.at b.at)

-- the cells that hold computations, in order
pub record AreCells (s : FlatSystem) (times : List Placing) (cells : List Cell) : Type 0 where
  pub each : All (IsUsed s times) cells
  pub all : (cell : Cell) → IsUsed s times cell → Contains cells cell
  pub order : AllPairs IsCellBefore cells

-- the cell with this number computes (n, z) in cycle c
pub record Computes (s : FlatSystem) (times : List Placing) (cells : List Cell) (p c n : ℕ) (z : Point) : Type 0 where
  pub cell : Cell
  pub is_cell : slice_get cells p ≡ Some cell
  pub stands : Occupies s times cell c n z
