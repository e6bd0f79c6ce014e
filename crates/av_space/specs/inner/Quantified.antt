-- The quantities of a laid out array, each within its limit, or the first that is not.
use Rattle.std.specs.Prelude.{ℕ, ◌≤◌, ◌^◌, List, length}
use Rattle.av_flat.specs.declared.timed.Timed.{Timed}
use Rattle.av_space.specs.declared.cells.Link.{Link}
use Rattle.av_space.specs.Links.{AreLinks, delay_count}
use Rattle.av_space.specs.declared.cells.Cells.{Cells}
use Rattle.av_space.specs.Arrays.{IsArrayOf}
use Rattle.av_space.specs.Quantities.{IsOperatorCount}
use Rattle.av_space.specs.inner.Scheduled.{Scheduled, IsScheduled, system_of, helpers_of, placings_of, cells_of}

-- the links of a scheduled system
pub record LinksOf (at : Scheduled) (links : List Link) : Type 0 where
  pub scheduled : IsScheduled at
  pub are : AreLinks (system_of at) (helpers_of at) (placings_of at) (cells_of at) links

abbrev pub delays_of : Scheduled → List Link → ℕ
delays_of at links = delay_count (system_of at) (helpers_of at) (cells_of at) links

-- registers of delay lines, links and operators are within their limits
pub record AreWithin (at : Scheduled) (links : List Link) : Type 0 where
  pub delays : delays_of at links ≤ 32768
  pub links_are : length links ≤ 16384
  pub operators : (m : ℕ) × IsOperatorCount (system_of at) (placings_of at) (cells_of at) m × (m ≤ 1048576)

-- the array of the system, with few enough ports and cells
pub record IsLaidOut (t : Timed) (a : Cells) : Type 0 where
  pub array : IsArrayOf t a
  pub few_inputs : length a.inputs ≤ 2 ^ 64
  pub few_outputs : length a.outputs ≤ 2 ^ 64
  pub few_cells : length a.cells ≤ 2 ^ 64
