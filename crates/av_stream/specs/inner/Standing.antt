-- Which point stands on a cell in a cycle.
use Rattle.std.specs.Prelude.{◌≡◌, ℕ, ◌+◌, ◌≤◌, pos, ◌*ℤ◌, ◌<ℤ◌, ◌≤ℤ◌, ℤ, List, [], length, map, drop, All, Option, Some, None, IsTrue}
use Rattle.av_affine.specs.declared.completion.Placed.{Placed}
use Rattle.av_affine.specs.Numbers.{AtMost, IsGcdOf}
use Rattle.av_affine.specs.Completion.{rows_of, first_row, IsCompletion}
use Rattle.av_tree.specs.Points.{Point}
use Rattle.av_flat.specs.declared.timed.Time.{Time}
use Rattle.av_flat.specs.declared.timed.Timed.{Timed}
use Rattle.av_flat.specs.Schedules.{cycle}
use Rattle.av_flat.specs.Points.{has}
use Rattle.av_flat.specs.Trees.{Variable, FlatSystem, view_system}
use Rattle.av_space.specs.declared.cells.Cell.{Cell}
use Rattle.av_space.specs.Coordinates.{Placing, ArePlacings, along}
use Rattle.av_space.specs.Occupancy.{Occupies, IsUsed}

-- the completion of a linear part's primitive vector, with the inverse of its rows
pub record IsMatrixOf (linear : List ℤ) (p : Placed) : Type 0 where
  pub few : length linear ≤ 4
  pub size : p.m.size ≡ length linear
  pub size_of_inverse : p.inverse.size ≡ length linear
  pub positive : pos 0 <ℤ p.gcd
  pub small_gcd : p.gcd ≤ℤ pos 4
  pub divided : linear ≡ map (λ x. p.gcd *ℤ x) (first_row p.m)
  pub primitive : IsGcdOf (first_row p.m) 1
  pub rule : IsCompletion (first_row p.m) (rows_of p.m)
  pub undone : (z : Point) → length z ≡ length linear → along (rows_of p.inverse) (along (rows_of p.m) z) ≡ z
  pub undoes : (w : List ℤ) → length w ≡ length linear → along (rows_of p.m) (along (rows_of p.inverse) w) ≡ w
  pub small : All (AtMost 4) p.inverse.cells

-- a node without indices has no matrix
abbrev pub IsMatrixFor : Time → Option Placed → Type 0
IsMatrixFor time None = length time.linear ≡ 0
IsMatrixFor time (Some p) = IsMatrixOf time.linear p

-- the rows below the first one
abbrev pub space_rows : Option Placed → List (List ℤ)
space_rows None = []
space_rows (Some p) = drop 1 (rows_of p.m)

abbrev pub placing_by : Time → Option Placed → Placing
placing_by time matrix = record { time = time; rows = space_rows matrix }

-- the point has these coordinates and this cycle
pub record StandsAt (placing : Placing) (at : List ℤ) (c : ℕ) (z : Point) : Type 0 where
  pub size : length z ≡ length placing.time.linear
  pub coordinates : at ≡ along placing.rows z
  pub in_cycle : pos c ≡ cycle placing.time z

-- a point of the variable has them
abbrev pub Stands : Variable → Placing → List ℤ → ℕ → Type 0
Stands v placing at c = (z : Point) × IsTrue (has v.domain z) × StandsAt placing at c z

-- some computation stands on the cell
pub record IsUsedIn (t : Timed) (cell : Cell) : Type 0 where
  pub placings : List Placing
  pub are_placings : ArePlacings t.times placings
  pub used : IsUsed (view_system t.flat) placings cell

-- the number of cycles from the first computation of the cell to the last one, both included
pub record IsSpanOf (s : FlatSystem) (times : List Placing) (cell : Cell) (span : ℕ) : Type 0 where
  pub first : ℕ
  pub last : ℕ
  pub first_node : ℕ
  pub last_node : ℕ
  pub first_point : Point
  pub last_point : Point
  pub begins : Occupies s times cell first first_node first_point
  pub ends : Occupies s times cell last last_node last_point
  pub many : last + 1 ≡ first + span
  pub between : (c n : ℕ) (z : Point) → Occupies s times cell c n z → (first ≤ c) × (c ≤ last)

abbrev pub HasSpan : Timed → Cell → ℕ → Type 0
HasSpan t cell span = (placings : List Placing) → ArePlacings t.times placings → IsSpanOf (view_system t.flat) placings cell span
