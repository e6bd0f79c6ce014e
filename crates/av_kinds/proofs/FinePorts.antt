-- What the lanes of a kind take from its ports obeys the rules of the subset, where the ports are known and have their widths.
use Rattle.std.proofs.Common.{◌≡◌, ℕ, zero, suc, ◌+◌, ◌<◌, List, [], ◌∷◌, ◌++◌, length, ◌∙◌, ap, arith, inl, Some}
use Rattle.std.specs.Prelude.{slice_get}
use Rattle.std.specs.List.{AllByRecursion}
use Rattle.av_base.specs.declared.width.Width.{Width}
use Rattle.av_base.proofs.Lists.{each_first, each_second}
use Rattle.av_net.specs.declared.operation.Operand.TheVariants.{Name}
use Rattle.av_net.specs.declared.netlist.Port.{Port}
use Rattle.av_net.specs.Meaning.{Widths}
use Rattle.av_kinds.specs.declared.program.Inlet.{Inlet}
use Rattle.av_kinds.specs.declared.program.Inlet.TheVariants.{Inputs, Taps, Pipe}
use Rattle.av_kinds.specs.declared.shape.SiteShape.{SiteShape}
use Rattle.av_kinds.specs.Names.{Naming, input_name, tap_name, bound_name, pipe_name}
use Rattle.av_kinds.specs.Counters.{counter_width}
use Rattle.av_kinds.specs.Tops.{port}
use Rattle.av_kinds.specs.inner.Shapes.{ModeShape, LaneShape, IsInletShape, IsSiteShape, IsModeShape, IsLaneShape}
use Rattle.av_kinds.specs.inner.Interfaces.{PortCounts, ports_by, bounds_by, options_by, last_by, ports_in, past_site, site_ports, tap_in, tap_of, sites_ports, past_sites, taps_of, guards_by, window_ports, tested_ports, past_tested, modes_ports, tested_of, last_of, datapaths_of}
use Rattle.av_kinds.proofs.Wide.{last_named}
use Rattle.av_kinds.proofs.Fine.{Known}
use Rattle.av_kinds.proofs.FineCells.{FineAt, FineGuard, FineArm, FineTap, FineDatapath, FineGuarded, FineLane}

-- the port's name is known, and has its width
pub record IsPort (K : Known) (widths : Widths) (p : Port) : Type 0 where
  pub known : K p.name
  pub wide : widths p.name ≡ p.width.bits

module _ (K : Known) (widths : Widths) (name : Naming) where
  abbrev P : Port → Type 0
  P = IsPort K widths

  port_fine : (p : Port) → P p → FineAt K widths name p.width.bits (Name p.name)
  port_fine p h = record { known = inl h.known; width = h.wide; fits = tt }

  -- ---- a place

  arms_by_fine : (letter : Naming) (w : Width) (k b n : ℕ) → AllByRecursion P (ports_by letter w k (suc n)) → AllByRecursion P (bounds_by b n) → AllByRecursion (FineArm K widths name w.bits) (options_by letter k b n)
  arms_by_fine letter w k b zero words bounds = tt
  arms_by_fine letter w k b (suc n) words bounds =
      (record { guard = port_fine (port counter_width (bound_name b)) bounds.0; operand = port_fine (port w (letter k)) words.0 }, arms_by_fine letter w (k + 1) (b + 1) n words.1 bounds.1)

  last_by_fine : (letter : Naming) (w : Width) (k n : ℕ) → AllByRecursion P (ports_by letter w k (suc n)) → FineAt K widths name w.bits (last_by letter k n)
  last_by_fine letter w k zero words = port_fine (port w (letter k)) words.0
  last_by_fine letter w k (suc n) words = last_by_fine letter w (k + 1) n words.1

  words_fine : (letter : Naming) (w : Width) (k b n : ℕ) → AllByRecursion P (ports_by letter w k (suc n) ++ bounds_by b n) → FineTap K widths name (record { width = w; arms = options_by letter k b n; otherwise = last_by letter k n })
  words_fine letter w k b n ports =
      let words = each_first P (ports_by letter w k (suc n)) (bounds_by b n) ports in
      let bounds = each_second P (ports_by letter w k (suc n)) (bounds_by b n) ports in
      record { arms = arms_by_fine letter w k b n words bounds; otherwise = last_by_fine letter w k n words; is_named = last_named letter k n }

  -- the pipelines before the lane k are known
  abbrev pub PipesKnown : List LaneShape → ℕ → Type 0
  PipesKnown all k = (h : ℕ) (lane : LaneShape) → slice_get all h ≡ Some lane → h < k → P (port lane.width (pipe_name h))

  site_fine : (all : List LaneShape) (k : ℕ) → PipesKnown all k → (at : PortCounts) (site : SiteShape) → IsSiteShape all k site → AllByRecursion P (site_ports at site) → FineTap K widths name (tap_of at site)
  site_fine all k pipes at site = by_inlet site.inlet
    where
      by_inlet : (i : Inlet) → IsInletShape all k site.width i → AllByRecursion P (ports_in at i site.width site.selections) → FineTap K widths name (tap_in at i site.width site.selections)
      by_inlet Inputs is ports = words_fine input_name site.width at.inputs at.bounds site.selections ports
      by_inlet Taps is ports = words_fine tap_name site.width at.taps at.bounds site.selections ports
      by_inlet (Pipe h) is ports =
          let own : P (port is.0.width (pipe_name h)) = pipes h is.0 is.1 is.3 in
          record { arms = tt; otherwise = record { known = inl own.known; width = own.wide ∙ ap (λ (w : Width). w.bits) is.2; fits = tt }; is_named = tt }

  sites_fine : (all : List LaneShape) (k : ℕ) → PipesKnown all k → (at : PortCounts) (sites : List SiteShape) → AllByRecursion (IsSiteShape all k) sites → AllByRecursion P (sites_ports at sites) → AllByRecursion (FineTap K widths name) (taps_of at sites)
  sites_fine all k pipes at [] are ports = tt
  sites_fine all k pipes at (site ∷ sites) are ports = (
    site_fine all k pipes at site are.0 (each_first P (site_ports at site) (sites_ports (past_site at site) sites) ports),
    sites_fine all k pipes (past_site at site) sites are.1 (each_second P (site_ports at site) (sites_ports (past_site at site) sites) ports),
  )

  -- ---- a lane

  guards_fine : (b n : ℕ) → AllByRecursion P (window_ports b n) → AllByRecursion (FineGuard K widths name) (guards_by b n)
  guards_fine b zero ports = tt
  guards_fine b (suc n) ports = ((port_fine (port counter_width (bound_name b)) ports.0, port_fine (port counter_width (bound_name (b + 1))) ports.1.0), guards_fine (b + 2) n ports.1.1)

  tested_fine : (all : List LaneShape) (k w : ℕ) → PipesKnown all k → (at : PortCounts) (modes : List ModeShape) → AllByRecursion (IsModeShape all k w) modes → AllByRecursion P (modes_ports at modes) → AllByRecursion (FineGuarded K widths name w) (tested_of at modes)
  tested_fine all k w pipes at [] are ports = tt
  tested_fine all k w pipes at (t ∷ []) are ports = tt
  tested_fine all k w pipes at (t ∷ u ∷ modes) are ports =
      let bounds = window_ports (past_sites at t.sites).bounds t.windows in
      let here = each_first P (tested_ports at t) (modes_ports (past_tested at t) (u ∷ modes)) ports in (
        record {
          guards = guards_fine (past_sites at t.sites).bounds t.windows (each_second P (sites_ports at t.sites) bounds here);
          datapath = record { taps = sites_fine all k pipes at t.sites are.0.sites (each_first P (sites_ports at t.sites) bounds here); tree = are.0.fits };
        },
        tested_fine all k w pipes (past_tested at t) (u ∷ modes) are.1 (each_second P (tested_ports at t) (modes_ports (past_tested at t) (u ∷ modes)) ports),
      )

  last_fine : (all : List LaneShape) (k w : ℕ) → PipesKnown all k → (at : PortCounts) (t : ModeShape) (modes : List ModeShape) → AllByRecursion (IsModeShape all k w) (t ∷ modes) → AllByRecursion P (modes_ports at (t ∷ modes)) → FineDatapath K widths name w (last_of at (t ∷ modes))
  last_fine all k w pipes at t [] are ports = record { taps = sites_fine all k pipes at t.sites are.0.sites ports; tree = are.0.fits }
  last_fine all k w pipes at t (u ∷ modes) are ports = last_fine all k w pipes (past_tested at t) u modes are.1 (each_second P (tested_ports at t) (modes_ports (past_tested at t) (u ∷ modes)) ports)

  pub lane_ports_fine : (all : List LaneShape) (k : ℕ) → PipesKnown all k → (at : PortCounts) (lane : LaneShape) → IsLaneShape all k lane → AllByRecursion P (modes_ports at lane.modes) → FineLane K widths name lane.width.bits (datapaths_of at lane.modes)
  lane_ports_fine all k pipes at lane is ports = by_modes lane.modes is.some is.modes ports
    where
      by_modes : (modes : List ModeShape) → 0 < length modes → AllByRecursion (IsModeShape all k lane.width.bits) modes → AllByRecursion P (modes_ports at modes) → FineLane K widths name lane.width.bits (datapaths_of at modes)
      by_modes [] some are ps = absurd (omega (arith, some))
      by_modes (t ∷ modes) some are ps = record { modes = tested_fine all k lane.width.bits pipes at (t ∷ modes) are ps; otherwise = last_fine all k lane.width.bits pipes at t modes are ps }
