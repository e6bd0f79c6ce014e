-- What a lane of a kind computes, is what the cell's lane works on at that number of the counter, over the words of its sources: for every choice
-- of bounds and selections that the kind has room for.
use Rattle.std.proofs.Common.{◌≡◌, ℕ, zero, suc, ◌≤◌, List, [], ◌∷◌, map, length, refl, sym, subst, ◌∙◌, ap, Bool, true, false, if◌then◌else◌}
use Rattle.std.specs.Prelude.{nat_eq, slice_index_or}
use Rattle.std.specs.List.{AllByRecursion}
use Rattle.std.proofs.Math.Path.{fun_ext}
use Rattle.av_base.specs.declared.width.Width.{Width}
use Rattle.av_net.specs.declared.operation.Operand.{Operand}
use Rattle.av_net.specs.Meaning.{Words, word_of}
use Rattle.av_net.specs.Instances.{AreFed}
use Rattle.av_kinds.specs.declared.program.WordSource.{WordSource}
use Rattle.av_kinds.specs.declared.program.Inlet.{Inlet}
use Rattle.av_kinds.specs.declared.program.ProgramSite.{ProgramSite}
use Rattle.av_kinds.specs.declared.program.Inlet.TheVariants.{Inputs, Taps, Pipe}
use Rattle.av_kinds.specs.Programs.{source_in, Work, Mode, is_active, mode_at}
use Rattle.av_kinds.specs.Histories.{value_by, fitted}
use Rattle.av_kinds.specs.inner.Choices.{tapped, tap_value}
use Rattle.av_kinds.specs.inner.Cells.{Datapath, is_selected, datapath_by, brought, datapath_value}
use Rattle.av_kinds.specs.Names.{Labels, pipe_name, input_name, tap_name}
use Rattle.av_kinds.specs.declared.shape.SiteShape.{SiteShape}
use Rattle.av_kinds.specs.inner.Shapes.{ModeShape, SuitsSite, SuitSites, SuitsMode, SuitModes}
use Rattle.av_kinds.specs.inner.Interfaces.{PortCounts, ports_in, ports_by, bounds_by, tap_in, tap_of, past_site, site_ports, sites_ports, past_sites, taps_of, datapath_of, guarded_of, tested_ports, past_tested, modes_ports, tested_of, last_of, window_ports}
use Rattle.av_kinds.specs.inner.Instances.{operand_of, operands_in, words_for, bounds_for, site_operands, sites_operands, windows_for, tested_operands, modes_operands, work_for}
use Rattle.av_kinds.proofs.Fed.{OneEach, one_each_joined, fed_front, fed_back, words_each, bounds_each, windows_each, site_taken, mode_taken}

-- ---- the words that a program says

-- what a place has, as a word of the width w
abbrev pub site_word : Labels → ℕ → Words → ℕ → ProgramSite → ℕ
site_word names w v c site =
    if nat_eq site.width.bits w then word_of v (operand_of names site.width (source_in c site))
    else fitted site.width.bits w (word_of v (operand_of names site.width (source_in c site)))

abbrev pub site_words : Labels → ℕ → Words → ℕ → List ProgramSite → ℕ → ℕ
site_words names w v c sites k = slice_index_or (map (site_word names w v c) sites) k 0

-- a place that a pipeline of the kind brings has the word of its source
abbrev pub PipedBy : Labels → Words → Words → ℕ → Inlet → ProgramSite → Type 0
PipedBy names inner v c Inputs site = Unit {0}
PipedBy names inner v c Taps site = Unit {0}
PipedBy names inner v c (Pipe h) site = inner (pipe_name h) ≡ word_of v (operand_of names site.width (source_in c site))

abbrev pub IsPiped : Labels → Words → Words → ℕ → ProgramSite → Type 0
IsPiped names inner v c site = PipedBy names inner v c site.inlet site

-- ---- a place

site_each : (names : Labels) (at : PortCounts) (shape : SiteShape) (site : ProgramSite) → OneEach (site_ports at shape) (site_operands names shape site)
site_each names at shape site = by_inlet shape.inlet
  where
    by_inlet : (i : Inlet) → OneEach (ports_in at i shape.width shape.selections) (operands_in names i shape.width shape.selections site)
    by_inlet Inputs =
        one_each_joined (ports_by input_name shape.width at.inputs (suc shape.selections)) (bounds_by at.bounds shape.selections) (words_for (operand_of names shape.width) shape.selections site.selections site.otherwise) (bounds_for shape.selections site.selections)
        (words_each input_name shape.width (operand_of names shape.width) at.inputs shape.selections site.selections site.otherwise) (bounds_each at.bounds shape.selections site.selections)
    by_inlet Taps =
        one_each_joined (ports_by tap_name shape.width at.taps (suc shape.selections)) (bounds_by at.bounds shape.selections) (words_for (operand_of names shape.width) shape.selections site.selections site.otherwise) (bounds_for shape.selections site.selections)
        (words_each tap_name shape.width (operand_of names shape.width) at.taps shape.selections site.selections site.otherwise) (bounds_each at.bounds shape.selections site.selections)
    by_inlet (Pipe h) = tt

site_has : (names : Labels) (inner v : Words) (c : ℕ) (at : PortCounts) (shape : SiteShape) (site : ProgramSite) → length site.selections ≤ shape.selections → PipedBy names inner v c shape.inlet site → site.width ≡ shape.width
    → AreFed inner v (site_ports at shape) (site_operands names shape site) → word_of inner (tapped inner c (tap_of at shape)) ≡ word_of v (operand_of names shape.width (source_in c site))
site_has names inner v c at shape site room piped same = by_inlet shape.inlet piped
  where
    f : WordSource → Operand
    f = operand_of names shape.width

    by_inlet : (i : Inlet) → PipedBy names inner v c i site → AreFed inner v (ports_in at i shape.width shape.selections) (operands_in names i shape.width shape.selections site)
        → word_of inner (tapped inner c (tap_in at i shape.width shape.selections)) ≡ word_of v (f (source_in c site))
    by_inlet Inputs h fed =
        let each = words_each input_name shape.width f at.inputs shape.selections site.selections site.otherwise in
        site_taken inner v f input_name shape.width c at.inputs at.bounds shape.selections site.selections site.otherwise room
        (fed_front inner v (ports_by input_name shape.width at.inputs (suc shape.selections)) (bounds_by at.bounds shape.selections) (words_for f shape.selections site.selections site.otherwise) (bounds_for shape.selections site.selections) each fed)
        (fed_back inner v (ports_by input_name shape.width at.inputs (suc shape.selections)) (bounds_by at.bounds shape.selections) (words_for f shape.selections site.selections site.otherwise) (bounds_for shape.selections site.selections) each fed)
    by_inlet Taps h fed =
        let each = words_each tap_name shape.width f at.taps shape.selections site.selections site.otherwise in
        site_taken inner v f tap_name shape.width c at.taps at.bounds shape.selections site.selections site.otherwise room
        (fed_front inner v (ports_by tap_name shape.width at.taps (suc shape.selections)) (bounds_by at.bounds shape.selections) (words_for f shape.selections site.selections site.otherwise) (bounds_for shape.selections site.selections) each fed)
        (fed_back inner v (ports_by tap_name shape.width at.taps (suc shape.selections)) (bounds_by at.bounds shape.selections) (words_for f shape.selections site.selections site.otherwise) (bounds_for shape.selections site.selections) each fed)
    by_inlet (Pipe h) piped fed = piped ∙ ap (λ (w : Width). word_of v (operand_of names w (source_in c site))) same

tap_width : (at : PortCounts) (shape : SiteShape) → (tap_of at shape).width ≡ shape.width
tap_width at shape = by_inlet shape.inlet
  where
    by_inlet : (i : Inlet) → (tap_in at i shape.width shape.selections).width ≡ shape.width
    by_inlet Inputs = refl
    by_inlet Taps = refl
    by_inlet (Pipe h) = refl

place_has : (names : Labels) (inner v : Words) (w c : ℕ) (at : PortCounts) (shape : SiteShape) (site : ProgramSite) → SuitsSite shape site → IsPiped names inner v c site
    → AreFed inner v (site_ports at shape) (site_operands names shape site) → tap_value w inner c (tap_of at shape) ≡ site_word names w v c site
place_has names inner v w c at shape site suits piped fed =
    let h : PipedBy names inner v c shape.inlet site = subst (λ i. PipedBy names inner v c i site) suits.inlet piped in
    let has = site_has names inner v c at shape site suits.room h suits.width fed in
    rw (tap_width at shape, has, suits.width) refl

-- ---- places

pub sites_each : (names : Labels) (at : PortCounts) (shapes : List SiteShape) (sites : List ProgramSite) → SuitSites shapes sites → OneEach (sites_ports at shapes) (sites_operands names shapes sites)
sites_each names at [] [] suit = tt
sites_each names at (shape ∷ shapes) (site ∷ sites) suit =
    one_each_joined (site_ports at shape) (sites_ports (past_site at shape) shapes) (site_operands names shape site) (sites_operands names shapes sites) (site_each names at shape site) (sites_each names (past_site at shape) shapes sites suit.1)
sites_each names at [] (site ∷ sites) suit = absurd suit
sites_each names at (shape ∷ shapes) [] suit = absurd suit

sites_have : (names : Labels) (inner v : Words) (w c : ℕ) (at : PortCounts) (shapes : List SiteShape) (sites : List ProgramSite) → SuitSites shapes sites → AllByRecursion (IsPiped names inner v c) sites
    → AreFed inner v (sites_ports at shapes) (sites_operands names shapes sites) → (k : ℕ) → brought w inner c (taps_of at shapes) k ≡ site_words names w v c sites k
sites_have names inner v w c at [] [] suit piped fed k = refl
sites_have names inner v w c at (shape ∷ shapes) (site ∷ sites) suit piped fed zero =
    place_has names inner v w c at shape site suit.0 piped.0
    (fed_front inner v (site_ports at shape) (sites_ports (past_site at shape) shapes) (site_operands names shape site) (sites_operands names shapes sites) (site_each names at shape site) fed)
sites_have names inner v w c at (shape ∷ shapes) (site ∷ sites) suit piped fed (suc k) =
    sites_have names inner v w c (past_site at shape) shapes sites suit.1 piped.1
    (fed_back inner v (site_ports at shape) (sites_ports (past_site at shape) shapes) (site_operands names shape site) (sites_operands names shapes sites) (site_each names at shape site) fed) k
sites_have names inner v w c at [] (site ∷ sites) suit piped fed k = absurd suit
sites_have names inner v w c at (shape ∷ shapes) [] suit piped fed k = absurd suit

-- ---- a work

-- the word of a work, over what its places have
abbrev pub work_value : Labels → ℕ → Words → ℕ → Work → ℕ
work_value names w v c work = value_by w (site_words names w v c work.sites) 0 work.tree

datapath_has : (names : Labels) (inner v : Words) (w c : ℕ) (at : PortCounts) (shape : ModeShape) (mode : Mode) → SuitsMode shape mode → AllByRecursion (IsPiped names inner v c) mode.work.sites
    → AreFed inner v (sites_ports at shape.sites) (sites_operands names shape.sites mode.work.sites) → datapath_value w inner c (datapath_of at shape) ≡ work_value names w v c mode.work
datapath_has names inner v w c at shape mode suits piped fed =
    let words : brought w inner c (taps_of at shape.sites) ≡ site_words names w v c mode.work.sites = fun_ext (λ k. sites_have names inner v w c at shape.sites mode.work.sites suits.sites piped fed k) in
    ap (λ (f : ℕ → ℕ). value_by w f 0 shape.tree) words ∙ ap (value_by w (site_words names w v c mode.work.sites) 0) (sym suits.tree)

-- ---- a lane

-- the places of the lane's modes that pipelines bring
abbrev pub ArePiped : Labels → Words → Words → ℕ → List ModeShape → List Mode → Type 0
ArePiped names inner v c [] modes = Unit {0}
ArePiped names inner v c (shape ∷ shapes) modes = AllByRecursion (IsPiped names inner v c) (mode_at modes shape.number).work.sites × ArePiped names inner v c shapes modes

if_value : (w : ℕ) (inner : Words) (c : ℕ) (names : Labels) (v : Words) (test : Bool) (a b : Datapath) (x y : Work) → datapath_value w inner c a ≡ work_value names w v c x → datapath_value w inner c b ≡ work_value names w v c y
    → datapath_value w inner c (if test then a else b) ≡ work_value names w v c (if test then x else y)
if_value w inner c names v true a b x y h k = h
if_value w inner c names v false a b x y h k = k

-- A lane of a kind has the word of the work whose mode it is, whatever its ports are fed.
pub lane_taken : (names : Labels) (inner v : Words) (w c : ℕ) (at : PortCounts) (shapes : List ModeShape) (modes : List Mode) → SuitModes shapes modes → ArePiped names inner v c shapes modes
    → AreFed inner v (modes_ports at shapes) (modes_operands names shapes modes)
    → datapath_value w inner c (datapath_by inner c (last_of at shapes) (tested_of at shapes)) ≡ work_value names w v c (work_for c shapes modes)
lane_taken names inner v w c at [] modes suit piped fed = refl
lane_taken names inner v w c at (f ∷ []) modes suit piped fed = datapath_has names inner v w c at f (mode_at modes f.number) suit.0 piped.0 fed
lane_taken names inner v w c at (f ∷ g ∷ shapes) modes suit piped fed =
    let mode = mode_at modes f.number in
    let bound = (past_sites at f.sites).bounds in
    let sites = sites_each names at f.sites mode.work.sites suit.0.sites in
    let tests = windows_each bound f.windows mode.windows in
    let own = one_each_joined (sites_ports at f.sites) (window_ports bound f.windows) (sites_operands names f.sites mode.work.sites) (windows_for f.windows mode.windows) sites tests in
    let here = fed_front inner v (tested_ports at f) (modes_ports (past_tested at f) (g ∷ shapes)) (tested_operands names f mode) (modes_operands names (g ∷ shapes) modes) own fed in
    let rest = fed_back inner v (tested_ports at f) (modes_ports (past_tested at f) (g ∷ shapes)) (tested_operands names f mode) (modes_operands names (g ∷ shapes) modes) own fed in
    let words = fed_front inner v (sites_ports at f.sites) (window_ports bound f.windows) (sites_operands names f.sites mode.work.sites) (windows_for f.windows mode.windows) sites here in
    let bounds = fed_back inner v (sites_ports at f.sites) (window_ports bound f.windows) (sites_operands names f.sites mode.work.sites) (windows_for f.windows mode.windows) sites here in
    let e : is_selected inner c (guarded_of at f) ≡ is_active c mode = mode_taken inner v c bound f.windows mode.windows suit.0.room bounds in
    rw e (if_value w inner c names v (is_active c mode) (datapath_of at f) (datapath_by inner c (last_of (past_tested at f) (g ∷ shapes)) (tested_of (past_tested at f) (g ∷ shapes))) mode.work (work_for c (g ∷ shapes) modes)
    (datapath_has names inner v w c at f mode suit.0 piped.0 words)
    (lane_taken names inner v w c (past_tested at f) (g ∷ shapes) modes suit.1 piped.1 rest))
