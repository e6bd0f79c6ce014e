-- The layout of a system has the placings and the cells of its array, so links and ports of the array are those of the layout.
use Rattle.std.proofs.Common.{◌≡◌, List, subst}
use Rattle.av_flat.specs.declared.timed.Timed.{Timed}
use Rattle.av_flat.specs.Trees.{view_system}
use Rattle.av_space.specs.declared.cells.Cell.{Cell}
use Rattle.av_space.specs.declared.cells.Cells.{Cells}
use Rattle.av_space.specs.declared.layout.Layout.{Layout}
use Rattle.av_space.specs.Coordinates.{Placing}
use Rattle.av_space.specs.Occupancy.{AreCells}
use Rattle.av_space.specs.Links.{AreLinks}
use Rattle.av_space.specs.Ports.{ArePorts}
use Rattle.av_space.specs.Whole.{IsWhole}
use Rattle.av_space.specs.Layouts.{IsLayout}
use Rattle.av_space.proofs.OneArray.{one_cells}
use Rattle.av_space.proofs.OnePlacing.{one_placings}

module _ (t : Timed) (a : Cells) (l : Layout) (whole : IsWhole t a) (layout : IsLayout t l) where
  pub same_placings : whole.list.placings ≡ l.placements
  same_placings = one_placings t.times whole.list.placings l.placements whole.list.are_placings layout.are_placings

  pub same_cells : a.cells ≡ l.cells
  same_cells = one_cells (view_system t.flat) l.placements a.cells l.cells (subst (λ (ps : List Placing). AreCells (view_system t.flat) ps a.cells) same_placings whole.list.cells) layout.are_cells

  pub own_links : AreLinks (view_system t.flat) t.helpers l.placements l.cells a.links
  own_links =
      subst (λ (cs : List Cell). AreLinks (view_system t.flat) t.helpers l.placements cs a.links) same_cells
      (subst (λ (ps : List Placing). AreLinks (view_system t.flat) t.helpers ps a.cells a.links) same_placings whole.list.links)

  pub own_ports : ArePorts (view_system t.flat) t.helpers l.placements l.cells a.inputs
  own_ports =
      subst (λ (cs : List Cell). ArePorts (view_system t.flat) t.helpers l.placements cs a.inputs) same_cells
      (subst (λ (ps : List Placing). ArePorts (view_system t.flat) t.helpers ps a.cells a.inputs) same_placings whole.list.inputs)
