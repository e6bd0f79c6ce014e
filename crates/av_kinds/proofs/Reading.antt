-- The lanes that the sources of a program name are there.
use Rattle.std.proofs.Common.{◌≡◌, ℕ, List, map, arith, ◌+◌, ◌^◌, ◌<◌, ◌≤◌, length, sym, subst, Some}
use Rattle.std.specs.Prelude.{slice_get}
use Rattle.std.specs.List.{AllByRecursion}
use Rattle.std.proofs.lemmas.List.{length-map}
use Rattle.av_base.specs.declared.width.Width.{Width}
use Rattle.av_base.proofs.Lists.{each_by_place, each_weaker}
use Rattle.av_kinds.specs.declared.program.CellLanes.{CellLanes}
use Rattle.av_kinds.specs.declared.program.Inlet.{Inlet}
use Rattle.av_kinds.specs.declared.program.Inlet.TheVariants.{Inputs, Taps, Pipe}
use Rattle.av_kinds.specs.declared.program.Selection.{Selection}
use Rattle.av_kinds.specs.declared.program.ProgramSite.{ProgramSite}
use Rattle.av_kinds.specs.declared.program.WordSource.{WordSource}
use Rattle.av_kinds.specs.declared.program.WordSource.TheVariants.{Word, Input, Line}
use Rattle.av_kinds.specs.Programs.{Mode, Program, lanes_of, IsSource, IsInletOf, IsSite, IsModeOf, IsProgram}
use Rattle.av_kinds.specs.Written.{ProgramMade, lane_of, program_of}
use Rattle.av_kinds.specs.inner.Shapes.{LaneShapeMade, lane_shape_of, SuitLanes}
use Rattle.av_kinds.specs.inner.Reads.{IsThere, SiteThere, ModeThere, LaneThere}
use Rattle.av_kinds.proofs.ShapeSuits.{below_length}
use Rattle.av_kinds.proofs.TopInstances.{lane_of_cell, cell_within, suit_many, lanes_many}

source_is_there : (program : Program) (w : Width) (source : WordSource) → IsSource program w source → IsThere (length program.lanes) source
source_is_there program w (Word n) is = tt
source_is_there program w (Input k) is = tt
source_is_there program w (Line q d) is = below_length program.lanes q is.0 is.1

site_is_there : (program : Program) (first q : ℕ) (site : ProgramSite) → IsSite program first q site → SiteThere (length program.lanes) site
site_is_there program first q site = by_inlet site.inlet
  where
    count : ℕ
    count = length program.lanes

    by_inlet : (i : Inlet) → IsInletOf program first q i site → SiteThere count site
    by_inlet Inputs is = (
      each_weaker (λ (l : Selection). (l.last < 2 ^ 12) × IsSource program site.width l.source) (λ (l : Selection). IsThere count l.source) (λ l h. source_is_there program site.width l.source h.1) site.selections is.0,
      source_is_there program site.width site.otherwise is.1,
    )
    by_inlet Taps is = (
      each_weaker (λ (l : Selection). (l.last < 2 ^ 12) × IsSource program site.width l.source) (λ (l : Selection). IsThere count l.source) (λ l h. source_is_there program site.width l.source h.1) site.selections is.0,
      source_is_there program site.width site.otherwise is.1,
    )
    by_inlet (Pipe h) is = (
      subst (AllByRecursion (λ (l : Selection). IsThere count l.source)) (sym is.4) tt,
      subst (IsThere count) (sym is.5) (below_length program.lanes (first + h) is.0 is.1),
    )

mode_is_there : (program : Program) (first q w : ℕ) (mode : Mode) → IsModeOf program first q w mode → ModeThere (length program.lanes) mode
mode_is_there program first q w mode is = each_weaker (IsSite program first q) (SiteThere (length program.lanes)) (site_is_there program first q) mode.work.sites is.sites

lanes_are_there : (program : Program) → IsProgram program → (p : ℕ) (own : CellLanes) → slice_get program.cells p ≡ Some own → AllByRecursion (LaneThere (length program.lanes)) (lanes_of program own)
lanes_are_there program is p own is_cell =
    each_by_place (LaneThere (length program.lanes)) (lanes_of program own) (λ h lane there.
    let l = lane_of_cell program is p own is_cell h lane there (cell_within 0 program.cells (length program.lanes) is.in_turn p own is_cell).low in
    each_weaker (IsModeOf program own.first (own.first + h) lane.width.bits) (ModeThere (length program.lanes)) (mode_is_there program own.first (own.first + h) lane.width.bits) lane.modes l.1.modes)

-- of a program as it lies in memory
pub record IsCellThere (program : ProgramMade) (own : CellLanes) : Type 0 where
  pub bounds : own.first ≤ own.value
  pub most : own.value < length program.lanes
  pub there : AllByRecursion (LaneThere (length program.lanes)) (lanes_of (program_of program) own)

pub cell_is_there : (program : ProgramMade) → IsProgram (program_of program) → (p : ℕ) (own : CellLanes) → slice_get program.cells p ≡ Some own → IsCellThere program own
cell_is_there program is p own is_cell =
    let P = program_of program in
    let many : length P.lanes ≡ length program.lanes = length-map program.lanes lane_of in
    let within = cell_within 0 P.cells (length P.lanes) is.in_turn p own is_cell in
    record { bounds = within.low; most = subst (λ n. own.value < n) many within.high; there = subst (λ n. AllByRecursion (LaneThere n) (lanes_of P own)) many (lanes_are_there P is p own is_cell) }

-- so many lanes does a shape have that suits those of the cell
pub outputs_within : (program : ProgramMade) (own : CellLanes) (shape : List LaneShapeMade) → IsCellThere program own → SuitLanes (map lane_shape_of shape) (lanes_of (program_of program) own) → own.first + length shape ≤ length program.lanes
outputs_within program own shape is suit =
    let P = program_of program in
    let many : length P.lanes ≡ length program.lanes = length-map program.lanes lane_of in
    let room = suit_many (map lane_shape_of shape) (lanes_of P own) suit in
    let count = lanes_many P own (record { low = is.bounds; high = subst (λ n. own.value < n) (sym many) is.most }) in
    omega (arith, room, count, length-map shape lane_shape_of, is.bounds, is.most)
