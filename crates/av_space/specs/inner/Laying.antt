-- Layouts as they are made: node by node, the computations of each by coordinates and then by cycle.
use Rattle.std.specs.Prelude.{◌≡◌, ◌≢◌, ℕ, ℤ, pos, ◌+◌, ◌*◌, ◌/◌, ◌+ℤ◌, ◌≤ℤ◌, ◌<ℤ◌, ◌<◌, ◌≤◌, List, [], ◌∷◌, All, AllPairs, Contains, Some, slice_get, length, unsigned_abs}
use Rattle.av_affine.specs.Numbers.{AtMost}
use Rattle.av_tree.specs.Points.{Point}
use Rattle.av_flat.specs.declared.timed.Time.{Time}
use Rattle.av_flat.specs.declared.timed.Timed.{Timed}
use Rattle.av_flat.specs.Trees.{FlatSystem, view_system}
use Rattle.av_flat.specs.Nodes.{IsComputation}
use Rattle.av_flat.specs.Order.{IsBefore}
use Rattle.av_flat.specs.Schedules.{cycle}
use Rattle.av_space.specs.declared.cells.Cell.{Cell}
use Rattle.av_space.specs.declared.layout.Slot.{Slot}
use Rattle.av_space.specs.declared.ranked.Ranked.{Ranked}
use Rattle.av_space.specs.Coordinates.{Placing, along}
use Rattle.av_space.specs.Occupancy.{Occupies, IsUsed, IsCellBefore}

-- the points of a node, ascending
pub record AreNodePoints (s : FlatSystem) (n : ℕ) (points : List Point) : Type 0 where
  pub ascending : AllPairs IsBefore points
  pub each : All (IsComputation s n) points
  pub all : (z : Point) → IsComputation s n z → Contains points z

-- each computation is in a cycle below 4096
abbrev pub HasFewCycles : Timed → Type 0
HasFewCycles t = (n : ℕ) (z : Point) (u : Time) → IsComputation (view_system t.flat) n z → slice_get t.times n ≡ Some u → cycle u z <ℤ pos 4096

-- a point that is computed in a cycle below 4096
pub record IsTimely (p : Placing) (z : Point) : Type 0 where
  pub few : length z ≤ 4
  pub small : AtMost 4095 z
  pub starts : pos 0 ≤ℤ cycle p.time z
  pub ends : cycle p.time z <ℤ pos 4096

-- ---- ranks

-- entries of at most 32767 in absolute value as the digits of a number
abbrev pub rank_from : ℕ → List ℤ → ℕ
rank_from r [] = r
rank_from r (x ∷ xs) = rank_from (r * 65536 + unsigned_abs (x +ℤ pos 32768)) xs

-- a computation with its rank by coordinates and then by cycle
abbrev pub ranked_at : Placing → Point → Ranked
ranked_at p z = record { rank = rank_from 0 (along p.rows z) * 4096 + unsigned_abs (cycle p.time z); slot = record { cycle = unsigned_abs (cycle p.time z); point = z } }

-- the rank of its coordinates
abbrev pub place_rank : Ranked → ℕ
place_rank r = r.rank / 4096

-- the computations of a node by their ranks
pub record AreRanked (s : FlatSystem) (n : ℕ) (p : Placing) (ranked : List Ranked) : Type 0 where
  pub each : (i : ℕ) (r : Ranked) → slice_get ranked i ≡ Some r → IsComputation s n r.slot.point × IsTimely p r.slot.point × (r ≡ ranked_at p r.slot.point)
  pub all : (z : Point) → IsComputation s n z → (i : ℕ) × (slice_get ranked i ≡ Some (ranked_at p z))
  pub rising : (i j : ℕ) (a b : Ranked) → i < j → slice_get ranked i ≡ Some a → slice_get ranked j ≡ Some b → a.rank < b.rank

-- those with the coordinates of the one at `start` end here
pub record IsRunEnd (ranked : List Ranked) (start end : ℕ) : Type 0 where
  pub above : start < end
  pub within : end ≤ length ranked
  pub same : (j : ℕ) (a b : Ranked) → start ≤ j → j < end → slice_get ranked start ≡ Some a → slice_get ranked j ≡ Some b → place_rank b ≡ place_rank a
  pub other : (a b : Ranked) → slice_get ranked start ≡ Some a → slice_get ranked end ≡ Some b → place_rank b ≢ place_rank a

-- ---- cells

-- the cell of a computation of a node
abbrev pub cell_of : ℕ → Placing → Ranked → Cell
cell_of n p r = record { node = n; at = along p.rows r.slot.point }

-- the cells of the first computations, in order, where no later one is on them
pub record AreCellsTo (n : ℕ) (p : Placing) (ranked : List Ranked) (done : ℕ) (cells : List Cell) : Type 0 where
  pub apart : (i j : ℕ) (a b : Ranked) → i < done → done ≤ j → slice_get ranked i ≡ Some a → slice_get ranked j ≡ Some b → place_rank a < place_rank b
  pub each : All (λ cell. (i : ℕ) × (r : Ranked) × (i < done) × (slice_get ranked i ≡ Some r) × (cell ≡ cell_of n p r)) cells
  pub all : (i : ℕ) (r : Ranked) → i < done → slice_get ranked i ≡ Some r → Contains cells (cell_of n p r)
  pub order : AllPairs IsCellBefore cells

-- the cells of the nodes with numbers from low on and below high
pub record AreCellsIn (s : FlatSystem) (placings : List Placing) (low high : ℕ) (cells : List Cell) : Type 0 where
  pub each : All (λ cell. (low ≤ cell.node) × (cell.node < high) × IsUsed s placings cell) cells
  pub all : (cell : Cell) → low ≤ cell.node → cell.node < high → IsUsed s placings cell → Contains cells cell
  pub order : AllPairs IsCellBefore cells

-- all computations of a cell, by cycle
pub record IsFilled (s : FlatSystem) (placings : List Placing) (cell : Cell) (slots : List Slot) : Type 0 where
  pub each : All (λ t. (n : ℕ) × Occupies s placings cell t.cycle n t.point) slots
  pub all : (c n : ℕ) (z : Point) → Occupies s placings cell c n z → Contains slots (record { cycle = c; point = z })
  pub order : AllPairs (λ a b. a.cycle < b.cycle) slots

-- those of each cell
pub record AreFilled (s : FlatSystem) (placings : List Placing) (cells : List Cell) (slots : List (List Slot)) : Type 0 where
  pub one_each : length slots ≡ length cells
  pub each : (k : ℕ) (cell : Cell) (own : List Slot) → slice_get cells k ≡ Some cell → slice_get slots k ≡ Some own → IsFilled s placings cell own

-- how many cells these nodes have
pub record HasCellCount (s : FlatSystem) (placings : List Placing) (low high count : ℕ) : Type 0 where
  pub cells : List Cell
  pub are : AreCellsIn s placings low high cells
  pub number : length cells ≡ count
