-- The array of a scheduled system: its cells, links, ports and listing, all of them and in their order (textbook: processing
-- elements and their links by space-time mapping, Rao, Kailath 1988; order and numbers are this project's).
use Rattle.std.specs.Prelude.{◌≡◌, List}
use Rattle.av_flat.specs.declared.timed.Timed.{Timed}
use Rattle.av_flat.specs.Trees.{view_system}
use Rattle.av_space.specs.declared.cells.Cells.{Cells}
use Rattle.av_space.specs.Coordinates.{Placing, ArePlacings}
use Rattle.av_space.specs.Occupancy.{AreCells}
use Rattle.av_space.specs.Links.{AreLinks, delay_count}
use Rattle.av_space.specs.Ports.{ArePorts, output_cells}
use Rattle.av_space.specs.Listings.{AreInLines, AreAtLines}
use Rattle.av_space.specs.Quantities.{IsCycleCount}

pub record IsArrayOf (t : Timed) (a : Cells) : Type 0 where
  pub placings : List Placing
  pub are_placings : ArePlacings t.times placings
  pub cells : AreCells (view_system t.flat) placings a.cells
  pub links : AreLinks (view_system t.flat) t.helpers placings a.cells a.links
  pub inputs : ArePorts (view_system t.flat) t.helpers placings a.cells a.inputs
  pub outputs : a.outputs ≡ output_cells (view_system t.flat) a.cells
  pub ins : AreInLines (view_system t.flat) t.helpers placings a.cells a.inputs a.listing.ins
  pub ats : AreAtLines (view_system t.flat) placings a.cells a.outputs a.listing.ats
  pub cycles : IsCycleCount (view_system t.flat) t.times a.cycles
  pub delays : a.delays ≡ delay_count (view_system t.flat) t.helpers a.cells a.links
