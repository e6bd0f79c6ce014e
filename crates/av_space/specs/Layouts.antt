-- Layouts of legal systems: cells with the computations on each by cycle, within the limits on cycles and cells.
use Rattle.std.specs.Prelude.{◌≡◌, ℕ, ◌<◌, ◌≤◌, List, All, AllPairs, Contains, Some, slice_get, length}
use Rattle.av_tree.specs.Points.{Point}
use Rattle.av_flat.specs.declared.timed.Timed.{Timed}
use Rattle.av_flat.specs.Trees.{FlatSystem, view_system}
use Rattle.av_space.specs.declared.cells.Cell.{Cell}
use Rattle.av_space.specs.declared.layout.Slot.{Slot}
use Rattle.av_space.specs.declared.layout.Layout.{Layout}
use Rattle.av_space.specs.Coordinates.{Placing, ArePlacings}
use Rattle.av_space.specs.Occupancy.{AreCells, Computes}
use Rattle.av_space.specs.Quantities.{IsCycleCount}

-- the computation is on the cell with this number
pub record IsSlot (s : FlatSystem) (placings : List Placing) (cells : List Cell) (p : ℕ) (t : Slot) : Type 0 where
  pub node : ℕ
  pub computes : Computes s placings cells p t.cycle node t.point

-- all computations of a cell, by cycle
pub record AreSlots (s : FlatSystem) (placings : List Placing) (cells : List Cell) (p : ℕ) (slots : List Slot) : Type 0 where
  pub each : All (IsSlot s placings cells p) slots
  pub all : (c n : ℕ) (z : Point) → Computes s placings cells p c n z → Contains slots (record { cycle = c; point = z })
  pub order : AllPairs (λ a b. a.cycle < b.cycle) slots

pub record IsLayout (t : Timed) (l : Layout) : Type 0 where
  pub are_placings : ArePlacings t.times l.placements
  pub are_cells : AreCells (view_system t.flat) l.placements l.cells
  pub few_cells : length l.cells ≤ 2048
  pub cycle_count : IsCycleCount (view_system t.flat) t.times l.cycles
  pub limit : l.cycles ≤ 4096
  pub few_cycles : (p c n : ℕ) (z : Point) → Computes (view_system t.flat) l.placements l.cells p c n z → c < 4096
  pub one_each : length l.slots ≡ length l.cells
  pub are_slots : (p : ℕ) (slots : List Slot) → slice_get l.slots p ≡ Some slots → AreSlots (view_system t.flat) l.placements l.cells p slots
