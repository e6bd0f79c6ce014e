-- How many cycles later the next problem may begin on an array (textbook: the pipelining period of a systolic array, S. Y. Kung 1988;
-- the rule by the cycles of each cell is this project's).
use Rattle.std.specs.Prelude.{◌≡◌, ℕ, ◌+◌, ◌<◌, ◌⊎◌, List, length}
use Rattle.av_tree.specs.Points.{Point}
use Rattle.av_flat.specs.declared.timed.Timed.{Timed}
use Rattle.av_flat.specs.Trees.{FlatSystem, view_system}
use Rattle.av_space.specs.declared.cells.Cell.{Cell}
use Rattle.av_space.specs.declared.cells.Cells.{Cells}
use Rattle.av_space.specs.Coordinates.{Placing, ArePlacings}
use Rattle.av_space.specs.Occupancy.{Computes}

-- a cell has two computations so many cycles apart, where the cycles of both are counted
pub record IsSpan (s : FlatSystem) (times : List Placing) (cells : List Cell) (span : ℕ) : Type 0 where
  pub cell : ℕ
  pub first : ℕ
  pub last : ℕ
  pub first_node : ℕ
  pub last_node : ℕ
  pub first_point : Point
  pub last_point : Point
  pub begins : Computes s times cells cell first first_node first_point
  pub ends : Computes s times cells cell last last_node last_point
  pub many : last + 1 ≡ first + span

-- the greatest number, over all cells, of the last cycle of a computation on the cell less the first one plus 1: no two computations of a cell are
-- farther apart, and two of some cell are as far; 1 without a cell
pub record IsPeriod (s : FlatSystem) (times : List Placing) (cells : List Cell) (period : ℕ) : Type 0 where
  pub enough : (p c d m n : ℕ) (y z : Point) → Computes s times cells p c m y → Computes s times cells p d n z → d < c + period
  pub taken : IsSpan s times cells period ⊎ ((length cells ≡ 0) × (period ≡ 1))

-- the period of the array of a timed system
pub record HasPeriod (t : Timed) (a : Cells) (period : ℕ) : Type 0 where
  pub placings : List Placing
  pub are_placings : ArePlacings t.times placings
  pub is_period : IsPeriod (view_system t.flat) placings a.cells period
