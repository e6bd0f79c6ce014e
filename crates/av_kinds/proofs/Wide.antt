-- What a kind takes from its ports has the widths that it asks for.
use Rattle.std.proofs.Common.{◌≡◌, ℕ, zero, suc, ◌+◌, List, [], ◌∷◌}
use Rattle.std.specs.List.{AllByRecursion}
use Rattle.av_base.specs.declared.width.Width.{Width}
use Rattle.av_base.proofs.Lists.{each_first, each_second}
use Rattle.av_net.specs.declared.netlist.Port.{Port}
use Rattle.av_net.specs.Meaning.{Widths, operand_width}
use Rattle.av_kinds.specs.declared.program.Inlet.{Inlet}
use Rattle.av_kinds.specs.declared.program.Inlet.TheVariants.{Inputs, Taps, Pipe}
use Rattle.av_kinds.specs.Names.{Naming, input_name, tap_name, pipe_name}
use Rattle.av_kinds.specs.declared.shape.SiteShape.{SiteShape}
use Rattle.av_kinds.specs.inner.Shapes.{ModeShape}
use Rattle.av_kinds.specs.inner.Interfaces.{PortCounts, ports_by, bounds_by, options_by, last_by, ports_in, past_site, site_ports, tap_in, tap_of, sites_ports, past_sites, taps_of, guards_by, window_ports, tested_ports, past_tested, modes_ports, tested_of, last_of, datapaths_of}
use Rattle.av_kinds.proofs.Choices.{FitOptions, IsNamed, FitsTap}
use Rattle.av_kinds.proofs.Cells.{FitTaps, FitGuards, FitModes, FitDatapaths}

abbrev pub IsWide : Widths → Port → Type 0
IsWide widths port = widths port.name ≡ port.width.bits

-- a pipeline's word is as wide as the place that takes it
abbrev pub PipeWide : Widths → Width → Inlet → Type 0
PipeWide widths w Inputs = Unit {0}
PipeWide widths w Taps = Unit {0}
PipeWide widths w (Pipe h) = widths (pipe_name h) ≡ w.bits

abbrev pub IsPipeWide : Widths → SiteShape → Type 0
IsPipeWide widths shape = PipeWide widths shape.width shape.inlet

abbrev pub ArePipesWide : Widths → List ModeShape → Type 0
ArePipesWide widths [] = Unit {0}
ArePipesWide widths (shape ∷ shapes) = AllByRecursion (IsPipeWide widths) shape.sites × ArePipesWide widths shapes

-- ---- a place

options_fit : (widths : Widths) (name : Naming) (w : Width) (k b n : ℕ) → AllByRecursion (IsWide widths) (ports_by name w k (suc n)) → AllByRecursion (IsWide widths) (bounds_by b n) → FitOptions widths w.bits 12 (options_by name k b n)
options_fit widths name w k b zero words bounds = tt
options_fit widths name w k b (suc n) words bounds = (bounds.0, words.0, options_fit widths name w (k + 1) (b + 1) n words.1 bounds.1)

last_fits : (widths : Widths) (name : Naming) (w : Width) (k n : ℕ) → AllByRecursion (IsWide widths) (ports_by name w k (suc n)) → operand_width widths (last_by name k n) ≡ w.bits
last_fits widths name w k zero words = words.0
last_fits widths name w k (suc n) words = last_fits widths name w (k + 1) n words.1

pub last_named : (name : Naming) (k n : ℕ) → IsNamed (last_by name k n)
last_named name k zero = tt
last_named name k (suc n) = last_named name (k + 1) n

site_fits : (widths : Widths) (at : PortCounts) (shape : SiteShape) → IsPipeWide widths shape → AllByRecursion (IsWide widths) (site_ports at shape) → FitsTap widths 12 (tap_of at shape)
site_fits widths at shape = by_inlet shape.inlet
  where
    by_inlet : (i : Inlet) → PipeWide widths shape.width i → AllByRecursion (IsWide widths) (ports_in at i shape.width shape.selections) → FitsTap widths 12 (tap_in at i shape.width shape.selections)
    by_inlet Inputs pipe wide =
        let words = each_first (IsWide widths) (ports_by input_name shape.width at.inputs (suc shape.selections)) (bounds_by at.bounds shape.selections) wide in
        let bounds = each_second (IsWide widths) (ports_by input_name shape.width at.inputs (suc shape.selections)) (bounds_by at.bounds shape.selections) wide in
        record { arms = options_fit widths input_name shape.width at.inputs at.bounds shape.selections words bounds; otherwise = last_fits widths input_name shape.width at.inputs shape.selections words; named = last_named input_name at.inputs shape.selections }
    by_inlet Taps pipe wide =
        let words = each_first (IsWide widths) (ports_by tap_name shape.width at.taps (suc shape.selections)) (bounds_by at.bounds shape.selections) wide in
        let bounds = each_second (IsWide widths) (ports_by tap_name shape.width at.taps (suc shape.selections)) (bounds_by at.bounds shape.selections) wide in
        record { arms = options_fit widths tap_name shape.width at.taps at.bounds shape.selections words bounds; otherwise = last_fits widths tap_name shape.width at.taps shape.selections words; named = last_named tap_name at.taps shape.selections }
    by_inlet (Pipe h) pipe wide = record { arms = tt; otherwise = pipe; named = tt }

sites_fit : (widths : Widths) (at : PortCounts) (shapes : List SiteShape) → AllByRecursion (IsPipeWide widths) shapes → AllByRecursion (IsWide widths) (sites_ports at shapes) → FitTaps widths 12 (taps_of at shapes)
sites_fit widths at [] pipes wide = tt
sites_fit widths at (shape ∷ shapes) pipes wide = (
  site_fits widths at shape pipes.0 (each_first (IsWide widths) (site_ports at shape) (sites_ports (past_site at shape) shapes) wide),
  sites_fit widths (past_site at shape) shapes pipes.1 (each_second (IsWide widths) (site_ports at shape) (sites_ports (past_site at shape) shapes) wide),
)

-- ---- a lane

guards_fit : (widths : Widths) (b n : ℕ) → AllByRecursion (IsWide widths) (window_ports b n) → FitGuards widths 12 (guards_by b n)
guards_fit widths b zero wide = tt
guards_fit widths b (suc n) wide = ((wide.0, wide.1.0), guards_fit widths (b + 2) n wide.1.1)

tested_fit : (widths : Widths) (at : PortCounts) (shapes : List ModeShape) → ArePipesWide widths shapes → AllByRecursion (IsWide widths) (modes_ports at shapes) → FitModes widths 12 (tested_of at shapes)
tested_fit widths at [] pipes wide = tt
tested_fit widths at (f ∷ []) pipes wide = tt
tested_fit widths at (f ∷ g ∷ shapes) pipes wide =
    let W = IsWide widths in
    let bounds = window_ports (past_sites at f.sites).bounds f.windows in
    let here = each_first W (tested_ports at f) (modes_ports (past_tested at f) (g ∷ shapes)) wide in (
      guards_fit widths (past_sites at f.sites).bounds f.windows (each_second W (sites_ports at f.sites) bounds here),
      sites_fit widths at f.sites pipes.0 (each_first W (sites_ports at f.sites) bounds here),
      tested_fit widths (past_tested at f) (g ∷ shapes) pipes.1 (each_second W (tested_ports at f) (modes_ports (past_tested at f) (g ∷ shapes)) wide),
    )

last_fit : (widths : Widths) (at : PortCounts) (shapes : List ModeShape) → ArePipesWide widths shapes → AllByRecursion (IsWide widths) (modes_ports at shapes) → FitTaps widths 12 (last_of at shapes).taps
last_fit widths at [] pipes wide = tt
last_fit widths at (f ∷ []) pipes wide = sites_fit widths at f.sites pipes.0 wide
last_fit widths at (f ∷ g ∷ shapes) pipes wide = last_fit widths (past_tested at f) (g ∷ shapes) pipes.1 (each_second (IsWide widths) (tested_ports at f) (modes_ports (past_tested at f) (g ∷ shapes)) wide)

pub datapaths_fits : (widths : Widths) (at : PortCounts) (shapes : List ModeShape) → ArePipesWide widths shapes → AllByRecursion (IsWide widths) (modes_ports at shapes) → FitDatapaths widths 12 (datapaths_of at shapes)
datapaths_fits widths at shapes pipes wide = record { modes = tested_fit widths at shapes pipes wide; otherwise = last_fit widths at shapes pipes wide }
