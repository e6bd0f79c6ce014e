-- What stands at the ports of an instance: given names and literals, of the widths of the ports.
use Rattle.std.proofs.Common.{◌≡◌, ℕ, zero, suc, ◌+◌, ◌<◌, ◌≤◌, ◌^◌, List, [], ◌∷◌, ◌++◌, length, refl, subst, arith, Bool, true, false, if◌then◌else◌}
use Rattle.std.specs.List.{AllByRecursion}
use Rattle.av_base.specs.declared.width.Width.{Width}
use Rattle.av_net.specs.declared.operation.Operand.{Operand}
use Rattle.av_net.specs.declared.operation.Operand.TheVariants.{Name}
use Rattle.av_net.specs.declared.netlist.Port.{Port}
use Rattle.av_net.specs.Meaning.{Widths, operand_width}
use Rattle.av_net.specs.Names.{IsAmong}
use Rattle.av_net.specs.Sound.{IsFitting}
use Rattle.av_net.specs.Plans.{SuitPorts}
use Rattle.av_kinds.specs.declared.program.WordSource.{WordSource}
use Rattle.av_kinds.specs.declared.program.Window.{Window}
use Rattle.av_kinds.specs.declared.program.Selection.{Selection}
use Rattle.av_kinds.specs.declared.program.Inlet.{Inlet}
use Rattle.av_kinds.specs.declared.program.Inlet.TheVariants.{Inputs, Taps, Pipe}
use Rattle.av_kinds.specs.declared.program.ProgramSite.{ProgramSite}
use Rattle.av_kinds.specs.declared.shape.SiteShape.{SiteShape}
use Rattle.av_kinds.specs.Programs.{Mode, mode_at, Lane}
use Rattle.av_kinds.specs.Names.{Naming, Labels, input_name, tap_name, kind_counter}
use Rattle.av_kinds.specs.Counters.{counter_width}
use Rattle.av_kinds.specs.Tops.{port}
use Rattle.av_kinds.specs.inner.Counts.{bound}
use Rattle.av_kinds.specs.inner.Shapes.{ModeShape, LaneShape, SuitsSite, SuitSites, SuitsMode, SuitModes, SuitLanes}
use Rattle.av_kinds.specs.inner.Interfaces.{PortCounts, ports_by, bounds_by, ports_in, past_site, site_ports, sites_ports, past_sites, window_ports, tested_ports, past_tested, modes_ports, past_modes}
use Rattle.av_kinds.specs.inner.Kinds.{counts, no_ports, lanes_inputs, kind_inputs}
use Rattle.av_kinds.specs.inner.Instances.{operand_of, words_for, bounds_for, operands_in, site_operands, sites_operands, windows_for, tested_operands, modes_operands, lanes_operands, cell_operands}

-- what may stand at a port
pub record IsFeed (given : List (List ℕ)) (W : Widths) (a : Operand) (w : ℕ) : Type 0 where
  pub known : IsAmong given a
  pub wide : operand_width W a ≡ w
  pub fits : IsFitting a

module _ (given : List (List ℕ)) (W : Widths) (names : Labels) where
  abbrev pub Feed : List Operand → List Port → Type 0
  Feed [] [] = Unit {0}
  Feed (a ∷ operands) (p ∷ ports) = IsFeed given W a p.width.bits × Feed operands ports
  Feed [] (p ∷ ports) = ⊥
  Feed (a ∷ operands) [] = ⊥

  feed_joined : (xs bs : List Operand) (ps qs : List Port) → Feed xs ps → Feed bs qs → Feed (xs ++ bs) (ps ++ qs)
  feed_joined [] bs [] qs h k = k
  feed_joined (a ∷ xs) bs (p ∷ ps) qs h k = (h.0, feed_joined xs bs ps qs h.1 k)
  feed_joined [] bs (p ∷ ps) qs h k = absurd h
  feed_joined (a ∷ xs) bs [] qs h k = absurd h

  pub feed_suits : (operands : List Operand) (ports : List Port) → Feed operands ports → SuitPorts W operands ports
  feed_suits [] [] h = tt
  feed_suits (a ∷ operands) (p ∷ ports) h = (h.0.wide, feed_suits operands ports h.1)
  feed_suits [] (p ∷ ports) h = absurd h
  feed_suits (a ∷ operands) [] h = absurd h

  pub feed_known : (operands : List Operand) (ports : List Port) → Feed operands ports → AllByRecursion (IsAmong given) operands
  feed_known [] [] h = tt
  feed_known (a ∷ operands) (p ∷ ports) h = (h.0.known, feed_known operands ports h.1)
  feed_known [] (p ∷ ports) h = absurd h
  feed_known (a ∷ operands) [] h = absurd h

  pub feed_fits : (operands : List Operand) (ports : List Port) → Feed operands ports → AllByRecursion IsFitting operands
  feed_fits [] [] h = tt
  feed_fits (a ∷ operands) (p ∷ ports) h = (h.0.fits, feed_fits operands ports h.1)
  feed_fits [] (p ∷ ports) h = absurd h
  feed_fits (a ∷ operands) [] h = absurd h

  -- ---- a place, whose sources may stand at ports

  pub bound_feed : (n : ℕ) → n < 2 ^ 12 → IsFeed given W (bound n) counter_width.bits
  bound_feed n lt = record { known = tt; wide = refl; fits = lt }

  abbrev pub IsSourceFeed : Width → WordSource → Type 0
  IsSourceFeed w source = IsFeed given W (operand_of names w source) w.bits

  words_feed : (letter : Naming) (w : Width) (k n : ℕ) (selections : List Selection) (otherwise : WordSource) → AllByRecursion (λ (l : Selection). IsSourceFeed w l.source) selections → IsSourceFeed w otherwise → length selections ≤ n
      → Feed (words_for (operand_of names w) n selections otherwise) (ports_by letter w k (suc n))
  words_feed letter w k zero [] otherwise each last room = (last, tt)
  words_feed letter w k zero (l ∷ selections) otherwise each last room = absurd (omega (arith, room))
  words_feed letter w k (suc n) [] otherwise each last room = (last, words_feed letter w (k + 1) n [] otherwise tt last (omega arith))
  words_feed letter w k (suc n) (l ∷ selections) otherwise each last room = (each.0, words_feed letter w (k + 1) n selections otherwise each.1 last (omega (arith, room)))

  bounds_feed : (k n : ℕ) (selections : List Selection) → AllByRecursion (λ (l : Selection). l.last < 2 ^ 12) selections → Feed (bounds_for n selections) (bounds_by k n)
  bounds_feed k zero selections each = tt
  bounds_feed k (suc n) [] each = (bound_feed 0 (omega arith), bounds_feed (k + 1) n [] tt)
  bounds_feed k (suc n) (l ∷ selections) each = (bound_feed l.last each.0, bounds_feed (k + 1) n selections each.1)

  -- the sources of a place that has ports
  abbrev pub InletFeeds : Inlet → Width → ProgramSite → Type 0
  InletFeeds Inputs w site = AllByRecursion (λ (l : Selection). IsSourceFeed w l.source) site.selections × AllByRecursion (λ (l : Selection). l.last < 2 ^ 12) site.selections × IsSourceFeed w site.otherwise
  InletFeeds Taps w site = AllByRecursion (λ (l : Selection). IsSourceFeed w l.source) site.selections × AllByRecursion (λ (l : Selection). l.last < 2 ^ 12) site.selections × IsSourceFeed w site.otherwise
  InletFeeds (Pipe h) w site = Unit {0}

  abbrev pub SiteFeeds : ProgramSite → Type 0
  SiteFeeds site = InletFeeds site.inlet site.width site

  site_feed : (at : PortCounts) (shape : SiteShape) (site : ProgramSite) → SuitsSite shape site → SiteFeeds site → Feed (site_operands names shape site) (site_ports at shape)
  site_feed at shape site suits feeds =
      let by_shape : InletFeeds shape.inlet shape.width site = subst (λ (w : Width). InletFeeds shape.inlet w site) suits.width (subst (λ i. InletFeeds i site.width site) suits.inlet feeds) in
      by_inlet shape.inlet by_shape
    where
      by_inlet : (i : Inlet) → InletFeeds i shape.width site → Feed (operands_in names i shape.width shape.selections site) (ports_in at i shape.width shape.selections)
      by_inlet Inputs h =
          feed_joined (words_for (operand_of names shape.width) shape.selections site.selections site.otherwise) (bounds_for shape.selections site.selections) (ports_by input_name shape.width at.inputs (suc shape.selections)) (bounds_by at.bounds shape.selections)
          (words_feed input_name shape.width at.inputs shape.selections site.selections site.otherwise h.0 h.2 suits.room) (bounds_feed at.bounds shape.selections site.selections h.1)
      by_inlet Taps h =
          feed_joined (words_for (operand_of names shape.width) shape.selections site.selections site.otherwise) (bounds_for shape.selections site.selections) (ports_by tap_name shape.width at.taps (suc shape.selections)) (bounds_by at.bounds shape.selections)
          (words_feed tap_name shape.width at.taps shape.selections site.selections site.otherwise h.0 h.2 suits.room) (bounds_feed at.bounds shape.selections site.selections h.1)
      by_inlet (Pipe n) h = tt

  sites_feed : (at : PortCounts) (shapes : List SiteShape) (sites : List ProgramSite) → SuitSites shapes sites → AllByRecursion SiteFeeds sites → Feed (sites_operands names shapes sites) (sites_ports at shapes)
  sites_feed at [] [] suit feeds = tt
  sites_feed at (shape ∷ shapes) (site ∷ sites) suit feeds =
      feed_joined (site_operands names shape site) (sites_operands names shapes sites) (site_ports at shape) (sites_ports (past_site at shape) shapes) (site_feed at shape site suit.0 feeds.0) (sites_feed (past_site at shape) shapes sites suit.1 feeds.1)
  sites_feed at [] (site ∷ sites) suit feeds = absurd suit
  sites_feed at (shape ∷ shapes) [] suit feeds = absurd suit

  -- ---- a mode

  windows_feed : (b n : ℕ) (windows : List Window) → AllByRecursion (λ (i : Window). (i.first < 2 ^ 12) × (i.last < 2 ^ 12)) windows → Feed (windows_for n windows) (window_ports b n)
  windows_feed b zero windows each = tt
  windows_feed b (suc n) [] each = (bound_feed 1 (omega arith), (bound_feed 0 (omega arith), windows_feed (b + 2) n [] tt))
  windows_feed b (suc n) (i ∷ windows) each = (bound_feed i.first each.0.0, (bound_feed i.last each.0.1, windows_feed (b + 2) n windows each.1))

  pub record ModeFeeds (mode : Mode) : Type 0 where
    pub sites : AllByRecursion SiteFeeds mode.work.sites
    pub windows : AllByRecursion (λ (i : Window). (i.first < 2 ^ 12) × (i.last < 2 ^ 12)) mode.windows

  tested_feed : (at : PortCounts) (shape : ModeShape) (mode : Mode) → SuitsMode shape mode → ModeFeeds mode → Feed (tested_operands names shape mode) (tested_ports at shape)
  tested_feed at shape mode suits feeds =
      feed_joined (sites_operands names shape.sites mode.work.sites) (windows_for shape.windows mode.windows) (sites_ports at shape.sites) (window_ports (past_sites at shape.sites).bounds shape.windows)
      (sites_feed at shape.sites mode.work.sites suits.sites feeds.sites) (windows_feed (past_sites at shape.sites).bounds shape.windows mode.windows feeds.windows)

  -- ---- lanes

  abbrev pub ModesFeed : List Mode → Type 0
  ModesFeed modes = (k : ℕ) → ModeFeeds (mode_at modes k)

  modes_feed : (at : PortCounts) (shapes : List ModeShape) (modes : List Mode) → SuitModes shapes modes → ModesFeed modes → Feed (modes_operands names shapes modes) (modes_ports at shapes)
  modes_feed at [] modes suit feeds = tt
  modes_feed at (f ∷ []) modes suit feeds = sites_feed at f.sites (mode_at modes f.number).work.sites suit.0.sites (feeds f.number).sites
  modes_feed at (f ∷ g ∷ shapes) modes suit feeds =
      feed_joined (tested_operands names f (mode_at modes f.number)) (modes_operands names (g ∷ shapes) modes) (tested_ports at f) (modes_ports (past_tested at f) (g ∷ shapes))
      (tested_feed at f (mode_at modes f.number) suit.0 (feeds f.number)) (modes_feed (past_tested at f) (g ∷ shapes) modes suit.1 feeds)

  lanes_feed : (at : PortCounts) (shapes : List LaneShape) (lanes : List Lane) → SuitLanes shapes lanes → AllByRecursion (λ (lane : Lane). ModesFeed lane.modes) lanes → Feed (lanes_operands names shapes lanes) (lanes_inputs at shapes)
  lanes_feed at [] [] suit feeds = tt
  lanes_feed at (shape ∷ shapes) (lane ∷ lanes) suit feeds =
      feed_joined (modes_operands names shape.modes lane.modes) (lanes_operands names shapes lanes) (modes_ports at shape.modes) (lanes_inputs (past_modes at shape.modes) shapes)
      (modes_feed at shape.modes lane.modes suit.0.modes feeds.0) (lanes_feed (past_modes at shape.modes) shapes lanes suit.1 feeds.1)
  lanes_feed at [] (lane ∷ lanes) suit feeds = absurd suit
  lanes_feed at (shape ∷ shapes) [] suit feeds = absurd suit

  -- What stands at the ports of a cell's instance may stand there.
  pub cell_feed : (counter : List ℕ) (shapes : List LaneShape) (lanes : List Lane) → (counts shapes ≡ true → IsFeed given W (Name counter) counter_width.bits) → SuitLanes shapes lanes → AllByRecursion (λ (lane : Lane). ModesFeed lane.modes) lanes
      → Feed (cell_operands names counter shapes lanes) (kind_inputs shapes)
  cell_feed counter shapes lanes count suit feeds = by_count (counts shapes) count
    where
      by_count : (test : Bool) → (test ≡ true → IsFeed given W (Name counter) counter_width.bits)
          → Feed ((if test then Name counter ∷ [] else []) ++ lanes_operands names shapes lanes) ((if test then port counter_width kind_counter ∷ [] else []) ++ lanes_inputs no_ports shapes)
      by_count true h = (h refl, lanes_feed no_ports shapes lanes suit feeds)
      by_count false h = lanes_feed no_ports shapes lanes suit feeds
