-- The program of a scheduled system with helpers, by its cells, links and ports, and by what the counter has in each cycle.
use Rattle.std.specs.Prelude.{◌≡◌, ◌↔◌, ◌⊎◌, ℕ, suc, ◌-◌, ◌<◌, ◌≤◌, IsTrue, true, List, [], ◌∷◌, length, Option, Some, None, slice_get, if◌then◌else◌}
use Rattle.std.specs.List.{AllByRecursion}
use Rattle.av_tree.specs.Points.{Point}
use Rattle.av_flat.specs.Trees.{Tree, Piece, Variable, FlatSystem, reference}
use Rattle.av_flat.specs.Points.{has}
use Rattle.av_flat.specs.declared.timed.Helper.{Helper}
use Rattle.av_flat.specs.Nodes.{nodes, number_at}
use Rattle.av_flat.specs.Broadcasts.{Reference}
use Rattle.av_flat.specs.Helped.{before, IsEntry}
use Rattle.av_depend.specs.ComputedPlaces.{computed_at}
use Rattle.av_space.specs.Taps.{Pipeline, entries}
use Rattle.av_space.specs.Links.{line_length}
use Rattle.av_kinds.specs.declared.program.WordSource.{WordSource}
use Rattle.av_kinds.specs.declared.program.WordSource.TheVariants.{Word, Line}
use Rattle.av_kinds.specs.declared.program.Window.{Window}
use Rattle.av_kinds.specs.declared.program.Selection.{Selection}
use Rattle.av_kinds.specs.declared.program.Inlet.{Inlet}
use Rattle.av_kinds.specs.declared.program.Inlet.TheVariants.{Inputs, Taps, Pipe}
use Rattle.av_kinds.specs.declared.program.ProgramSite.{ProgramSite}
use Rattle.av_kinds.specs.declared.program.CellLanes.{CellLanes}
use Rattle.av_kinds.specs.Programs.{source_in, site_count, Work, Mode, is_active, Lane, Program}
use Rattle.av_history.specs.Widths.{width_at, read_width}
use Rattle.av_history.specs.Places.{EachPlace}
use Rattle.av_history.specs.Performing.{Array, ComputesOn, Lanes, Spot, IsReferenceSource, IsPipelineSource, pipeline_at, IsPlaceSource, IsHelper, helper_spot}

-- ---- a place

-- each source of the site
abbrev pub EachSource : (WordSource → Type 0) → ProgramSite → Type 0
EachSource P site = AllByRecursion (λ (l : Selection). P l.source) site.selections × P site.otherwise

-- the source is right at a computation of the spot of which R holds
abbrev pub IsRight : Array → Spot → (Point → Type 0) → (Point → ℕ → WordSource → Type 0) → WordSource → Type 0
IsRight a at R P source = (c : ℕ) × (z : Point) × ComputesOn a at.cell c at.node z × IsTrue (has at.piece.domain z) × R z × P z c source

-- at the computations that R holds of, the site takes a source that is right for the point; it has no other sources, but for the number 0
-- where it has none, and its selections end with numbers of computations
pub record IsSiteFor (a : Array) (count : ℕ → ℕ) (at : Spot) (R : Point → Type 0) (P : Point → ℕ → WordSource → Type 0) (site : ProgramSite) : Type 0 where
  pub each : EachSource (λ source. (source ≡ Word 0) ⊎ IsRight a at R P source) site
  pub lasts : AllByRecursion (λ (l : Selection). (c : ℕ) × (z : Point) × ComputesOn a at.cell c at.node z × (l.last ≡ count c)) site.selections
  pub all : (c : ℕ) (z : Point) → ComputesOn a at.cell c at.node z → IsTrue (has at.piece.domain z) → R z → P z c (source_in (count c) site)

-- how the words of a place come in: of a reference with a helper from the helper's pipeline
abbrev pub inlet_by : FlatSystem → (ℕ → ℕ) → Option Pipeline → Tree → Inlet
inlet_by s pipe None (reference place m) = if computed_at (slice_get s.variables place) then Taps else Inputs
inlet_by s pipe (Some h) (reference place m) = Pipe (pipe h.number)
inlet_by s pipe h _ = Taps

abbrev pub Always : Point → Type 0
Always z = Unit {0}

-- the number of a helper's pipeline among those of a cell whose lanes have numbers from the first on
abbrev pub pipe_in : Lanes → ℕ → ℕ → ℕ → ℕ
pipe_in lanes p first j = lanes.of_helper j p - first

-- a reference with a helper takes the word of the helper's lane on the cell, in the same cycle
abbrev pub IsPiped : Lanes → ℕ → Option Pipeline → Tree → ProgramSite → Type 0
IsPiped lanes p (Some h) (reference place m) site = (site.selections ≡ []) × (site.otherwise ≡ Line (lanes.of_helper h.number p) 0)
IsPiped lanes p h _ site = Unit {0}

-- a place of the spot; i counts references
pub record IsPlaceSite (a : Array) (count : ℕ → ℕ) (lanes : Lanes) (first : ℕ) (at : Spot) (i : ℕ) (t : Tree) (site : ProgramSite) : Type 0 where
  pub inlet : site.inlet ≡ inlet_by a.system (pipe_in lanes at.cell first) (pipeline_at a at i) t
  pub width : site.width.bits ≡ read_width a.system at.variable.width (pipeline_at a at i) t
  pub piped : IsPiped lanes at.cell (pipeline_at a at i) t site
  pub reads : IsSiteFor a count at Always (λ z c source. IsPlaceSource a lanes at z c i t source) site

-- ---- works and modes

-- a piece on a cell: its tree, with a site for each place that reads
pub record IsWorkFor (a : Array) (count : ℕ → ℕ) (lanes : Lanes) (first : ℕ) (at : Spot) (work : Work) : Type 0 where
  pub tree : work.tree ≡ at.piece.tree
  pub many : length work.sites ≡ site_count at.piece.tree
  pub sites : EachPlace (λ k i t. (site : ProgramSite) × (slice_get work.sites k ≡ Some site) × IsPlaceSite a count lanes first at i t site) 0 0 at.piece.tree

-- of the computations of which R holds, that with the greatest number up to this one; and Q holds of it
pub record IsLatest (a : Array) (count : ℕ → ℕ) (p : ℕ) (R Q : ℕ → Point → Type 0) (x : ℕ) : Type 0 where
  pub cycle : ℕ
  pub node : ℕ
  pub point : Point
  pub computes : ComputesOn a p cycle node point
  pub read : R node point
  pub holds : Q node point
  pub low : count cycle ≤ x
  pub last : (c n : ℕ) (z : Point) → ComputesOn a p c n z → R n z → count c ≤ x → count c ≤ count cycle

-- the mode is active at the numbers of just those computations on the cell that Q holds of, among those that R holds of, and between two of
-- them with one number after the other's; its windows begin and end with numbers of computations
pub record IsModeFor (a : Array) (count : ℕ → ℕ) (p : ℕ) (R Q : ℕ → Point → Type 0) (mode : Mode) : Type 0 where
  pub numbers : (c n : ℕ) (z : Point) → ComputesOn a p c n z → R n z → IsTrue (is_active (count c) mode) ↔ Q n z
  pub latest : (x : ℕ) → IsTrue (is_active x mode) → IsLatest a count p R Q x
  pub ends : AllByRecursion (λ (i : Window). ((c : ℕ) × (n : ℕ) × (z : Point) × ComputesOn a p c n z × (i.first ≡ count c)) × ((c : ℕ) × (n : ℕ) × (z : Point) × ComputesOn a p c n z × (i.last ≡ count c))) mode.windows

-- no two modes are active at one number
abbrev pub AreAlone : List Mode → Type 0
AreAlone modes = (x i j : ℕ) (m n : Mode) → slice_get modes i ≡ Some m → slice_get modes j ≡ Some n → is_active x m ≡ true → is_active x n ≡ true → i ≡ j

-- ---- lanes

-- the lane of the value of a cell: the pieces with a computation there, by their numbers, each in its mode
pub record IsValueLane (a : Array) (count : ℕ → ℕ) (lanes : Lanes) (first p n : ℕ) (v : Variable) (lane : Lane) : Type 0 where
  pub home_is : lane.home ≡ p
  pub rank_is : lane.rank ≡ 0
  pub width_is : lane.width.bits ≡ v.width
  pub pieces : List ℕ
  pub mode : (i : ℕ) (mode : Mode) → slice_get lane.modes i ≡ Some mode
      → (k : ℕ) × (piece : Piece) × (slice_get pieces i ≡ Some k) × (slice_get v.pieces k ≡ Some piece)
      × IsWorkFor a count lanes first (record { cell = p; node = n; variable = v; number = k; piece = piece }) mode.work
      × IsModeFor a count p (λ m z. m ≡ n) (λ m z. IsTrue (has piece.domain z)) mode
  -- each has a computation
  pub busy : (i k : ℕ) (piece : Piece) → slice_get pieces i ≡ Some k → slice_get v.pieces k ≡ Some piece → (c : ℕ) × (z : Point) × ComputesOn a p c n z × IsTrue (has piece.domain z)
  pub every : (k : ℕ) (piece : Piece) → slice_get v.pieces k ≡ Some piece → (c m : ℕ) (z : Point) → ComputesOn a p c m z → IsTrue (has piece.domain z)
      → (i : ℕ) × (mode : Mode) × (slice_get lane.modes i ≡ Some mode) × (slice_get pieces i ≡ Some k)
  pub alone : AreAlone lane.modes
  pub length_is : lane.length ≡ line_length a.system a.helpers a.cells a.links p None

-- one place, which is the reference
abbrev pub one_site : ProgramSite → Tree → Work
one_site site tree = record { sites = site ∷ []; tree = tree }

-- the lane of the helper j on a cell: its reference at entry points, and else its own word at the point before
pub record IsHelperLane (a : Array) (count : ℕ → ℕ) (lanes : Lanes) (at : Spot) (j : ℕ) (h : Helper) (r : Reference) (lane : Lane) : Type 0 where
  pub home_is : lane.home ≡ at.cell
  pub rank_is : lane.rank ≡ suc j
  pub width_is : lane.width.bits ≡ at.variable.width
  pub entry_mode : Mode
  pub own_mode : Mode
  pub modes_are : lane.modes ≡ entry_mode ∷ own_mode ∷ []
  pub entry_site : ProgramSite
  pub entry_work : entry_mode.work ≡ one_site entry_site (reference r.place r.map)
  pub entry_inlet : entry_site.inlet ≡ (if computed_at (slice_get a.system.variables r.place) then Taps else Inputs)
  pub entry_width : entry_site.width.bits ≡ width_at a.system r.place
  pub entry_reads : IsSiteFor a count at (λ z. IsEntry at.piece.domain h.direction z) (λ z c source. IsReferenceSource a lanes at c h.site r.place r.map (entries h.direction) source) entry_site
  pub own_site : ProgramSite
  pub own_work : own_mode.work ≡ one_site own_site (reference r.place r.map)
  pub own_inlet : own_site.inlet ≡ Taps
  pub own_width : own_site.width.bits ≡ at.variable.width
  pub own_reads : IsSiteFor a count at (λ z. IsTrue (has at.piece.domain (before z h.direction))) (λ z c source. IsPipelineSource a lanes at j h.direction h.site r.place r.map true c source) own_site
  pub entry_numbers : IsModeFor a count at.cell (λ n z. (n ≡ at.node) × IsTrue (has at.piece.domain z)) (λ n z. IsEntry at.piece.domain h.direction z) entry_mode
  pub own_numbers : IsModeFor a count at.cell (λ n z. (n ≡ at.node) × IsTrue (has at.piece.domain z)) (λ n z. IsTrue (has at.piece.domain (before z h.direction))) own_mode
  pub alone : AreAlone lane.modes
  pub length_is : lane.length ≡ line_length a.system a.helpers a.cells a.links at.cell (Some j)

-- what a lane of a cell whose lanes have numbers from the first on is for
pub data IsLaneFor (a : Array) (count : ℕ → ℕ) (lanes : Lanes) (first p q : ℕ) (lane : Lane) : Type 0 where
  of_value : (c n : ℕ) (z : Point) (v : Variable) → ComputesOn a p c n z → slice_get (nodes a.system) n ≡ Some v → q ≡ lanes.of_value p
      → IsValueLane a count lanes first p n v lane → IsLaneFor a count lanes first p q lane
  of_helper : (j : ℕ) (h : Helper) (v : Variable) (piece : Piece) (r : Reference) → IsHelper a j h v piece r → (c : ℕ) (z : Point) → ComputesOn a p c (number_at a.system h.var) z
      → IsTrue (has piece.domain z) → q ≡ lanes.of_helper j p → first ≤ q → q < lanes.of_value p
      → IsHelperLane a count lanes (helper_spot a h v piece p) j h r lane → IsLaneFor a count lanes first p q lane

-- ---- the whole

-- on each cell the lanes of its helpers and that of its value, and no others
pub record IsProgramFor (a : Array) (count : ℕ → ℕ) (lanes : Lanes) (program : Program) : Type 0 where
  pub stride_is : program.stride ≡ suc (length a.helpers)
  pub one_each : length program.cells ≡ length a.cells
  pub value_last : (p : ℕ) (own : CellLanes) → slice_get program.cells p ≡ Some own → own.value ≡ lanes.of_value p
  pub only : (p q : ℕ) (own : CellLanes) (lane : Lane) → slice_get program.cells p ≡ Some own → own.first ≤ q → q ≤ own.value → slice_get program.lanes q ≡ Some lane → IsLaneFor a count lanes own.first p q lane
  pub values : (p c n : ℕ) (z : Point) (v : Variable) → ComputesOn a p c n z → slice_get (nodes a.system) n ≡ Some v
      → (own : CellLanes) × (slice_get program.cells p ≡ Some own) × ((lane : Lane) × (slice_get program.lanes (lanes.of_value p) ≡ Some lane) × IsValueLane a count lanes own.first p n v lane)
  pub helpers : (j : ℕ) (h : Helper) (v : Variable) (piece : Piece) (r : Reference) → IsHelper a j h v piece r
      → (p c : ℕ) (z : Point) → ComputesOn a p c (number_at a.system h.var) z → IsTrue (has piece.domain z)
      → (own : CellLanes) × (slice_get program.cells p ≡ Some own) × (own.first ≤ lanes.of_helper j p) × (lanes.of_helper j p < own.value)
      × ((lane : Lane) × (slice_get program.lanes (lanes.of_helper j p) ≡ Some lane) × IsHelperLane a count lanes (helper_spot a h v piece p) j h r lane)
