-- Legal systems with their layouts.
use Rattle.std.specs.Prelude.{List}
use Rattle.av_flat.specs.declared.timed.Helper.{Helper}
use Rattle.av_flat.specs.declared.timed.Timed.{Timed}
use Rattle.av_flat.specs.Legal.{IsLegal}
use Rattle.av_flat.specs.Trees.{FlatSystem, view_system}
use Rattle.av_space.specs.declared.cells.Cell.{Cell}
use Rattle.av_space.specs.declared.layout.Layout.{Layout}
use Rattle.av_space.specs.Coordinates.{Placing}
use Rattle.av_space.specs.Layouts.{IsLayout}

pub record Scheduled : Type 0 where
  pub timed : Timed
  pub layout : Layout

pub record IsScheduled (at : Scheduled) : Type 0 where
  pub legal : IsLegal at.timed
  pub layout : IsLayout at.timed at.layout

abbrev pub system_of : Scheduled → FlatSystem
system_of at = view_system at.timed.flat

abbrev pub helpers_of : Scheduled → List Helper
helpers_of at = at.timed.helpers

abbrev pub placings_of : Scheduled → List Placing
placings_of at = at.layout.placements

abbrev pub cells_of : Scheduled → List Cell
cells_of at = at.layout.cells
