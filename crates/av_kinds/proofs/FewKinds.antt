-- A kind with no more ports and wires than lists have items has numbers of numerals.
use Rattle.std.proofs.Common.{◌≡◌, ℕ, suc, ◌+◌, List, [], ◌∷◌, length, refl, ap, arith}
use Rattle.std.specs.List.{AllByRecursion}
use Rattle.std.proofs.lemmas.List.{length-append}
use Rattle.av_base.specs.declared.width.Width.{Width}
use Rattle.av_net.specs.declared.operation.Operand.{Operand}
use Rattle.av_net.specs.declared.operation.Operand.TheVariants.{Name}
use Rattle.av_kinds.specs.declared.program.Inlet.{Inlet}
use Rattle.av_kinds.specs.declared.program.Inlet.TheVariants.{Inputs, Taps, Pipe}
use Rattle.av_kinds.specs.declared.shape.SiteShape.{SiteShape}
use Rattle.av_kinds.specs.Names.{input_name, tap_name, bound_name, inner_name, kind_counter}
use Rattle.av_kinds.specs.Counters.{counter_width}
use Rattle.av_kinds.specs.inner.Gates.{ports_from}
use Rattle.av_kinds.specs.inner.Shapes.{ModeShape, LaneShape}
use Rattle.av_kinds.specs.inner.Interfaces.{PortCounts, ports_by, bounds_by, ports_in, past, site_ports, past_site, sites_ports, past_sites, window_ports, tested_ports, past_tested, modes_ports, past_modes}
use Rattle.av_kinds.specs.inner.Kinds.{counts, lane_built, no_ports, lanes_inputs, lanes_outputs, lanes_wires, kind_by}
use Rattle.av_kinds.specs.inner.Modules.{kinds_by, IsSmallKind}
use Rattle.av_kinds.proofs.PortNames.{past_lanes}
use Rattle.av_kinds.proofs.KindNames.{counter_ports, wires_end, IsFewKind}
use Rattle.av_kinds.proofs.InterfaceSteps.{by_many, windows_many}
use Rattle.av_kinds.proofs.Placing.{gates_many}

abbrev total : PortCounts → ℕ
total at = at.inputs + at.taps + at.bounds

site_total : (at : PortCounts) (site : SiteShape) → total (past_site at site) ≡ total at + length (site_ports at site)
site_total at site = by_inlet site.inlet
  where
    w : Width
    w = site.width

    n : ℕ
    n = site.selections

    by_inlet : (i : Inlet) → total (past at i n) ≡ total at + length (ports_in at i w n)
    by_inlet Inputs = omega (arith, length-append (ports_by input_name w at.inputs (suc n)) (bounds_by at.bounds n), by_many input_name w at.inputs (suc n), by_many bound_name counter_width at.bounds n)
    by_inlet Taps = omega (arith, length-append (ports_by tap_name w at.taps (suc n)) (bounds_by at.bounds n), by_many tap_name w at.taps (suc n), by_many bound_name counter_width at.bounds n)
    by_inlet (Pipe h) = omega arith

sites_total : (at : PortCounts) (sites : List SiteShape) → total (past_sites at sites) ≡ total at + length (sites_ports at sites)
sites_total at [] = omega arith
sites_total at (s ∷ sites) = omega (arith, site_total at s, sites_total (past_site at s) sites, length-append (site_ports at s) (sites_ports (past_site at s) sites))

tested_total : (at : PortCounts) (mode : ModeShape) → total (past_tested at mode) ≡ total at + length (tested_ports at mode)
tested_total at mode =
    omega (arith, sites_total at mode.sites, windows_many (past_sites at mode.sites).bounds mode.windows, length-append (sites_ports at mode.sites) (window_ports (past_sites at mode.sites).bounds mode.windows))

modes_total : (at : PortCounts) (modes : List ModeShape) → total (past_modes at modes) ≡ total at + length (modes_ports at modes)
modes_total at [] = omega arith
modes_total at (t ∷ []) = sites_total at t.sites
modes_total at (t ∷ u ∷ modes) = omega (arith, tested_total at t, modes_total (past_tested at t) (u ∷ modes), length-append (tested_ports at t) (modes_ports (past_tested at t) (u ∷ modes)))

lanes_total : (at : PortCounts) (lanes : List LaneShape) → total (past_lanes at lanes) ≡ total at + length (lanes_inputs at lanes)
lanes_total at [] = omega arith
lanes_total at (lane ∷ lanes) = omega (arith, modes_total at lane.modes, lanes_total (past_modes at lane.modes) lanes, length-append (modes_ports at lane.modes) (lanes_inputs (past_modes at lane.modes) lanes))

wires_total : (c : Operand) (at : PortCounts) (n : ℕ) (lanes : List LaneShape) → wires_end c at n lanes ≡ n + length (lanes_wires c at n lanes)
wires_total c at n [] = omega arith
wires_total c at n (lane ∷ lanes) =
    let gates = (lane_built c at n lane).gates in
    omega (arith, wires_total c (past_modes at lane.modes) (n + length gates) lanes, gates_many (inner_name n) 0 gates, length-append (ports_from (inner_name n) 0 gates) (lanes_wires c (past_modes at lane.modes) (n + length gates) lanes))

outputs_many : (k : ℕ) (lanes : List LaneShape) → length (lanes_outputs k lanes) ≡ length lanes
outputs_many k [] = refl
outputs_many k (lane ∷ lanes) = ap suc (outputs_many (k + 1) lanes)

few_kind : (number : ℕ) (shape : List LaneShape) → IsSmallKind (kind_by number shape) → IsFewKind shape
few_kind number shape small =
    let all = length-append (counter_ports (counts shape)) (lanes_inputs no_ports shape) in
    let sum = lanes_total no_ports shape in
    record {
      ports = record { inputs = omega (arith, small.0, all, sum); taps = omega (arith, small.0, all, sum); bounds = omega (arith, small.0, all, sum) };
      outputs = omega (arith, small.1, outputs_many 0 shape);
      wires = omega (arith, small.2, wires_total (Name kind_counter) no_ports 0 shape);
    }

pub few_kinds : (n : ℕ) (shapes : List (List LaneShape)) → AllByRecursion IsSmallKind (kinds_by n shapes) → AllByRecursion IsFewKind shapes
few_kinds n [] small = tt
few_kinds n (shape ∷ shapes) small = (few_kind n shape small.0, few_kinds (n + 1) shapes small.1)

pub kinds_many : (n : ℕ) (shapes : List (List LaneShape)) → length (kinds_by n shapes) ≡ length shapes
kinds_many n [] = refl
kinds_many n (shape ∷ shapes) = ap suc (kinds_many (n + 1) shapes)
