-- What stands at the ports of a cell's instance: literals, and what has the words of sources of the cell's places.
use Rattle.std.proofs.Common.{◌≡◌, ℕ, zero, suc, ◌+◌, ◌<◌, ◌≤◌, ◌^◌, List, [], ◌∷◌, refl, subst, Some, inl, inr}
use Rattle.std.specs.Prelude.{slice_get}
use Rattle.std.specs.List.{AllByRecursion}
use Rattle.av_base.specs.declared.width.Width.{Width}
use Rattle.av_base.proofs.Lists.{each_at, each_append, each_by_place}
use Rattle.av_net.specs.declared.operation.Operand.{Operand}
use Rattle.av_net.specs.declared.operation.Operand.TheVariants.{Literal}
use Rattle.av_kinds.specs.declared.program.CellLanes.{CellLanes}
use Rattle.av_kinds.specs.declared.program.WordSource.{WordSource}
use Rattle.av_kinds.specs.declared.program.Window.{Window}
use Rattle.av_kinds.specs.declared.program.Inlet.{Inlet}
use Rattle.av_kinds.specs.declared.program.Inlet.TheVariants.{Inputs, Taps, Pipe}
use Rattle.av_kinds.specs.declared.program.Selection.{Selection}
use Rattle.av_kinds.specs.declared.program.ProgramSite.{ProgramSite}
use Rattle.av_kinds.specs.declared.shape.SiteShape.{SiteShape}
use Rattle.av_kinds.specs.Programs.{Mode, mode_at, no_mode, Lane, Program, lanes_of, IsSource, IsInletOf, IsSite, IsModeOf, IsProgram}
use Rattle.av_kinds.specs.Names.{Labels, labels}
use Rattle.av_kinds.specs.Counters.{counter_width}
use Rattle.av_kinds.specs.Forms.{IsSourceOf, Takes}
use Rattle.av_kinds.specs.inner.Shapes.{ModeShape, LaneShape, SuitsSite, SuitSites, SuitModes, SuitLanes}
use Rattle.av_kinds.specs.inner.Instances.{operand_of, words_for, bounds_for, operands_in, site_operands, sites_operands, windows_for, tested_operands, modes_operands, lanes_operands}
use Rattle.av_kinds.proofs.TopInstances.{lane_of_cell}

-- what holds of literals and of what has the word of such a source
module _ (names : Labels) (Q : WordSource → Type 0) (P : Operand → Type 0) (literal : (w : Width) (n : ℕ) → P (Literal w n)) (source : (w : Width) (s : WordSource) → Q s → P (operand_of names w s)) where
  words_each : (w : Width) (n : ℕ) (selections : List Selection) (otherwise : WordSource) → AllByRecursion (λ (l : Selection). Q l.source) selections → Q otherwise → AllByRecursion P (words_for (operand_of names w) n selections otherwise)
  words_each w zero selections otherwise each last = (source w otherwise last, tt)
  words_each w (suc n) [] otherwise each last = (source w otherwise last, words_each w n [] otherwise tt last)
  words_each w (suc n) (l ∷ selections) otherwise each last = (source w l.source each.0, words_each w n selections otherwise each.1 last)

  bounds_each : (n : ℕ) (selections : List Selection) → AllByRecursion P (bounds_for n selections)
  bounds_each zero selections = tt
  bounds_each (suc n) [] = (literal counter_width 0, bounds_each n [])
  bounds_each (suc n) (l ∷ selections) = (literal counter_width l.last, bounds_each n selections)

  -- the sources of a place that has ports
  abbrev pub HasSources : Inlet → ProgramSite → Type 0
  HasSources Inputs site = AllByRecursion (λ (l : Selection). Q l.source) site.selections × Q site.otherwise
  HasSources Taps site = AllByRecursion (λ (l : Selection). Q l.source) site.selections × Q site.otherwise
  HasSources (Pipe h) site = Unit {0}

  abbrev pub SiteHas : ProgramSite → Type 0
  SiteHas site = HasSources site.inlet site

  site_each : (shape : SiteShape) (site : ProgramSite) → SuitsSite shape site → SiteHas site → AllByRecursion P (site_operands names shape site)
  site_each shape site suits has = by_inlet shape.inlet (subst (λ i. HasSources i site) suits.inlet has)
    where
      by_inlet : (i : Inlet) → HasSources i site → AllByRecursion P (operands_in names i shape.width shape.selections site)
      by_inlet Inputs h = each_append P (words_for (operand_of names shape.width) shape.selections site.selections site.otherwise) (bounds_for shape.selections site.selections) (words_each shape.width shape.selections site.selections site.otherwise h.0 h.1) (bounds_each shape.selections site.selections)
      by_inlet Taps h = each_append P (words_for (operand_of names shape.width) shape.selections site.selections site.otherwise) (bounds_for shape.selections site.selections) (words_each shape.width shape.selections site.selections site.otherwise h.0 h.1) (bounds_each shape.selections site.selections)
      by_inlet (Pipe n) h = tt

  sites_each : (shapes : List SiteShape) (sites : List ProgramSite) → SuitSites shapes sites → AllByRecursion SiteHas sites → AllByRecursion P (sites_operands names shapes sites)
  sites_each [] sites suit has = tt
  sites_each (shape ∷ shapes) [] suit has = tt
  sites_each (shape ∷ shapes) (site ∷ sites) suit has = each_append P (site_operands names shape site) (sites_operands names shapes sites) (site_each shape site suit.0 has.0) (sites_each shapes sites suit.1 has.1)

  windows_each : (n : ℕ) (windows : List Window) → AllByRecursion P (windows_for n windows)
  windows_each zero windows = tt
  windows_each (suc n) [] = (literal counter_width 1, (literal counter_width 0, windows_each n []))
  windows_each (suc n) (i ∷ windows) = (literal counter_width i.first, (literal counter_width i.last, windows_each n windows))

  -- each place of each mode has such sources
  abbrev pub ModesHave : List Mode → Type 0
  ModesHave modes = (k : ℕ) → AllByRecursion SiteHas (mode_at modes k).work.sites

  modes_each : (shapes : List ModeShape) (modes : List Mode) → SuitModes shapes modes → ModesHave modes → AllByRecursion P (modes_operands names shapes modes)
  modes_each [] modes suit has = tt
  modes_each (f ∷ []) modes suit has = sites_each f.sites (mode_at modes f.number).work.sites suit.0.sites (has f.number)
  modes_each (f ∷ g ∷ shapes) modes suit has =
      let m = mode_at modes f.number in
      each_append P (tested_operands names f m) (modes_operands names (g ∷ shapes) modes)
      (each_append P (sites_operands names f.sites m.work.sites) (windows_for f.windows m.windows) (sites_each f.sites m.work.sites suit.0.sites (has f.number)) (windows_each f.windows m.windows))
      (modes_each (g ∷ shapes) modes suit.1 has)

  lanes_each : (shapes : List LaneShape) (lanes : List Lane) → SuitLanes shapes lanes → AllByRecursion (λ (lane : Lane). ModesHave lane.modes) lanes → AllByRecursion P (lanes_operands names shapes lanes)
  lanes_each [] lanes suit has = tt
  lanes_each (shape ∷ shapes) [] suit has = tt
  lanes_each (shape ∷ shapes) (lane ∷ lanes) suit has = each_append P (modes_operands names shape.modes lane.modes) (lanes_operands names shapes lanes) (modes_each shape.modes lane.modes suit.0.modes has.0) (lanes_each shapes lanes suit.1 has.1)

-- what holds without a mode, and of each that is there, holds of that of each number
by_number : (P : Mode → Type 0) → P no_mode → (modes : List Mode) → ((k : ℕ) (m : Mode) → slice_get modes k ≡ Some m → P m) → (k : ℕ) → P (mode_at modes k)
by_number P none [] each k = none
by_number P none (m ∷ modes) each zero = each 0 m refl
by_number P none (m ∷ modes) each (suc k) = by_number P none modes (λ i n is. each (suc i) n is) k

-- ---- a cell

module _ (program : Program) (is : IsProgram program) (p : ℕ) (own : CellLanes) (is_cell : slice_get program.cells p ≡ Some own) (low : own.first ≤ own.value) where
  -- a source of one of its places
  pub record IsGiven (s : WordSource) : Type 0 where
    pub takes : Takes program p s
    pub width : Width
    pub is_source : IsSource program width s

  module _ (h : ℕ) (lane : Lane) (there : slice_get (lanes_of program own) h ≡ Some lane) (k : ℕ) (m : Mode) (is_mode : slice_get lane.modes k ≡ Some m) (j : ℕ) (site : ProgramSite) (is_site : slice_get m.work.sites j ≡ Some site) where
    takes : (s : WordSource) → IsSourceOf site s → Takes program p s
    takes s source =
        let at = lane_of_cell program is p own is_cell h lane there low in
        record { lane_number = own.first + h; lane = lane; is_lane = at.0; home = at.1.home; mode_number = k; mode = m; is_mode = is_mode; site_number = j; site = site; is_site = is_site; is_source = source }

    site_given : (P : Operand → Type 0) (literal : (w : Width) (n : ℕ) → P (Literal w n)) (source : (w : Width) (s : WordSource) → IsGiven s → P (operand_of (labels program) w s)) → SiteHas (labels program) IsGiven P literal source site
    site_given P literal source =
        let at = lane_of_cell program is p own is_cell h lane there low in
        let mode = each_at (IsModeOf program own.first (own.first + h) lane.width.bits) lane.modes k m at.1.modes is_mode in
        by_inlet site.inlet (each_at (IsSite program own.first (own.first + h)) m.work.sites j site mode.sites is_site)
      where
        L : Selection → Type 0
        L l = (l.last < 2 ^ 12) × IsSource program site.width l.source

        given : AllByRecursion L site.selections × IsSource program site.width site.otherwise → AllByRecursion (λ (l : Selection). IsGiven l.source) site.selections × IsGiven site.otherwise
        given sources = (
          each_by_place (λ (l : Selection). IsGiven l.source) site.selections (λ i l here. record { takes = takes l.source (inr (i, l, here, refl)); width = site.width; is_source = (each_at L site.selections i l sources.0 here).1 }),
          record { takes = takes site.otherwise (inl refl); width = site.width; is_source = sources.1 },
        )

        by_inlet : (i : Inlet) → IsInletOf program own.first (own.first + h) i site → HasSources (labels program) IsGiven P literal source i site
        by_inlet Inputs sources = given sources
        by_inlet Taps sources = given sources
        by_inlet (Pipe n) sources = tt

  -- What holds of literals and of sources of the cell holds of all that stands at the ports of its lanes.
  pub operands_each : (P : Operand → Type 0) → ((w : Width) (n : ℕ) → P (Literal w n)) → ((w : Width) (s : WordSource) → IsGiven s → P (operand_of (labels program) w s)) → (shapes : List LaneShape) → SuitLanes shapes (lanes_of program own)
      → AllByRecursion P (lanes_operands (labels program) shapes (lanes_of program own))
  operands_each P literal source shapes suit =
      let N = labels program in
      let S : ProgramSite → Type 0 = SiteHas N IsGiven P literal source in
      lanes_each N IsGiven P literal source shapes (lanes_of program own) suit
      (each_by_place (λ (lane : Lane). ModesHave N IsGiven P literal source lane.modes) (lanes_of program own) (λ h lane there.
      by_number (λ (m : Mode). AllByRecursion S m.work.sites) tt lane.modes (λ k m is_mode.
      each_by_place S m.work.sites (λ j site is_site. site_given h lane there k m is_mode j site is_site P literal source))))
