-- The limits of an array, and the first quantity that is above its own: cycles, cells, registers of delay lines, links, operators
-- (own limits).
use Rattle.std.specs.Prelude.{◌≡◌, ℕ, ◌<◌, ◌≤◌, List, length}
use Rattle.av_flat.specs.declared.timed.Timed.{Timed}
use Rattle.av_flat.specs.Trees.{view_system}
use Rattle.av_space.specs.declared.cells.Cell.{Cell}
use Rattle.av_space.specs.declared.cells.Link.{Link}
use Rattle.av_space.specs.declared.fault.SpaceFault.{SpaceFault}
use Rattle.av_space.specs.declared.fault.SpaceFault.TheVariants as fault
use Rattle.av_space.specs.Coordinates.{Placing, ArePlacings}
use Rattle.av_space.specs.Occupancy.{AreCells}
use Rattle.av_space.specs.Links.{AreLinks, delay_count}
use Rattle.av_space.specs.Quantities.{IsCycleCount, IsOperatorCount}

-- the cells of a system's array, with the rows by which coordinates are taken
pub record HasCells (t : Timed) (cells : List Cell) : Type 0 where
  pub placings : List Placing
  pub are_placings : ArePlacings t.times placings
  pub are_cells : AreCells (view_system t.flat) placings cells

-- its cells and links
pub record HasLinks (t : Timed) (cells : List Cell) (links : List Link) : Type 0 where
  pub on : HasCells t cells
  pub are_links : AreLinks (view_system t.flat) t.helpers on.placings cells links

-- ---- the quantities of a system's array

abbrev pub IsCycles : Timed → ℕ → Type 0
IsCycles t n = IsCycleCount (view_system t.flat) t.times n

abbrev pub IsCellNumber : Timed → ℕ → Type 0
IsCellNumber t n = (cells : List Cell) × HasCells t cells × (n ≡ length cells)

abbrev pub IsDelays : Timed → ℕ → Type 0
IsDelays t n = (cells : List Cell) × (links : List Link) × HasLinks t cells links × (n ≡ delay_count (view_system t.flat) t.helpers cells links)

abbrev pub IsLinkNumber : Timed → ℕ → Type 0
IsLinkNumber t n = (cells : List Cell) × (links : List Link) × HasLinks t cells links × (n ≡ length links)

abbrev pub IsOperators : Timed → ℕ → Type 0
IsOperators t n = (cells : List Cell) × (on : HasCells t cells) × IsOperatorCount (view_system t.flat) on.placings cells n

-- ---- faults

-- the quantity is at most its limit
abbrev pub IsWithin : ℕ → (ℕ → Type 0) → Type 0
IsWithin limit P = (n : ℕ) × P n × (n ≤ limit)

-- the first quantity that is above its limit, with its value; out of memory has no cause
abbrev pub IsSpaceFault : Timed → SpaceFault → Type 0
IsSpaceFault t (fault.Cycles n) = IsCycles t n × (4096 < n)
IsSpaceFault t (fault.Cells n) = IsWithin 4096 (IsCycles t) × IsCellNumber t n × (2048 < n)
IsSpaceFault t (fault.Delays n) = IsWithin 4096 (IsCycles t) × IsWithin 2048 (IsCellNumber t) × IsDelays t n × (32768 < n)
IsSpaceFault t (fault.Links n) =
    IsWithin 4096 (IsCycles t) × IsWithin 2048 (IsCellNumber t) × IsWithin 32768 (IsDelays t) × IsLinkNumber t n × (16384 < n)
IsSpaceFault t (fault.Operators n) =
    IsWithin 4096 (IsCycles t) × IsWithin 2048 (IsCellNumber t) × IsWithin 32768 (IsDelays t) × IsWithin 16384 (IsLinkNumber t) × IsOperators t n × (1048576 < n)
IsSpaceFault t fault.Memory = Unit {0}
