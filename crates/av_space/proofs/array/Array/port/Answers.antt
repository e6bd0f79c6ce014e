use Rattle.std.proofs.Common.{rules, ◌≡◌, ℕ, ◌<◌, List, length, get_or, sym, ap, subst, arith}
use Rattle.std.specs.Prelude.{All, AllPairs, Contains}
use Rattle.std.proofs.lemmas.List.{length-map}
use Rattle.av_flat.specs.Trees.{view_piece, view_variable}
use Rattle.av_space.specs.declared.cells.Cell.{Cell}
use Rattle.av_space.specs.declared.cells.InPort.{InPort}
use Rattle.av_space.specs.Ports.{IsPortBefore}
use Rattle.av_flat.specs.Sites.{PlaceMade}
use Rattle.av_space.specs.Spots.{cells_of}
use Rattle.av_space.proofs.Elements.{in_range}
use Rattle.av_space.proofs.SpotReadings.{port_there}
use Rattle.av_space.proofs.array.Array.port.Goals as goal

pub overflow_cast-port : goal.overflow_cast-port
overflow_cast-port c =
    let at = c.args.spot.now in
    let l = in_range (view_variable at.var.now).pieces at.number (view_piece at.piece.now) c.requires.spot.is_piece in
    let size = length-map at.var.now.pieces view_piece in
    let few : at.number < length at.var.now.pieces = omega (arith, l, size) in
    search (rules, few)

pub port_at-requires-clause-cells : goal.port_at-requires-clause-cells
port_at-requires-clause-cells c =
    let a = c.args.self.now in
    subst (λ (cells : List Cell). All (λ (p : InPort). p.cell < length cells) c.as_slice.result.now) (sym c.as_slice-cells.ensures)
    (subst (λ (ports : List InPort). All (λ (p : InPort). p.cell < length (cells_of a)) ports) (sym c.as_slice.ensures)
    (λ k d l. let f = (c.requires.array.ports.each k d l).4.computes in in_range (cells_of a) (get_or a.cells.now.inputs k d).cell f.cell f.is_cell))

pub port_at-requires-clause-order : goal.port_at-requires-clause-order
port_at-requires-clause-order c =
    subst (λ (cells : List Cell). AllPairs (IsPortBefore cells) c.as_slice.result.now) (sym c.as_slice-cells.ensures)
    (subst (λ (ports : List InPort). AllPairs (IsPortBefore (cells_of c.args.self.now)) ports) (sym c.as_slice.ensures) c.requires.array.ports.order)

pub port_at-requires-clause-cell : goal.port_at-requires-clause-cell
port_at-requires-clause-cell c =
    let l = in_range (cells_of c.args.self.now) c.args.spot.now.cell.0 c.requires.spot.cell c.requires.spot.is_cell in
    subst (λ (cells : List Cell). c.args.spot.now.cell.0 < length cells) (sym c.as_slice-cells.ensures) l

pub port_at-requires-clause-there : goal.port_at-requires-clause-there
port_at-requires-clause-there c =
    let at = c.args.spot.now in
    let site : c.args.site.now.place.site ≡ c.place.inside.site.0 = ap (λ (p : PlaceMade). p.site) (sym c.place.view_is) in
    subst (λ (ports : List InPort). Contains ports (record { cell = at.cell.0; piece = at.number; site = c.place.inside.site.0 })) (sym c.as_slice.ensures)
    (subst (λ (j : ℕ). Contains c.args.self.now.cells.now.inputs (record { cell = at.cell.0; piece = at.number; site = j })) site
    (port_there c.args.self.now c.requires.array at c.requires.spot c.args.site.now c.requires.site.is c.args.slot.now c.requires.slot c.requires.site c.requires.entered))
