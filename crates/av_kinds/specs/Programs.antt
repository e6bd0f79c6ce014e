-- Programs in space and time: what each cell computes at each number of the counter, from words of input ports and from values of cells in
-- earlier cycles. They have no names and no wires (own form, after the usual picture of a systolic array: H. T. Kung 1982).
use Rattle.std.specs.Prelude.{◌≡◌, ℕ, suc, ◌+◌, ◌-◌, ◌<◌, ◌≤◌, ◌^◌, Bool, true, nat_le, ◌&&◌, List, [], ◌∷◌, length, take, drop, Some, slice_get, slice_index_or, if◌then◌else◌}
use Rattle.std.specs.List.{list_any, AllByRecursion}
use Rattle.av_base.specs.Words.{IsWord}
use Rattle.av_base.specs.declared.width.Width.{Width}
use Rattle.av_flat.specs.Trees.{Tree, reference, constant, binary, choice, pick}
use Rattle.av_kinds.specs.declared.program.WordSource.{WordSource}
use Rattle.av_kinds.specs.declared.program.WordSource.TheVariants.{Word, Input, Line}
use Rattle.av_kinds.specs.declared.program.Window.{Window}
use Rattle.av_kinds.specs.declared.program.Selection.{Selection}
use Rattle.av_kinds.specs.declared.program.Inlet.{Inlet}
use Rattle.av_kinds.specs.declared.program.Inlet.TheVariants.{Inputs, Taps, Pipe}
use Rattle.av_kinds.specs.declared.program.ProgramSite.{ProgramSite}
use Rattle.av_kinds.specs.declared.program.CellLanes.{CellLanes}

-- ---- places that read

-- whether the number of the counter is in the window
abbrev pub has_number : ℕ → Window → Bool
has_number c i = nat_le i.first c && nat_le c i.last

abbrev pub source_by : ℕ → WordSource → List Selection → WordSource
source_by c otherwise [] = otherwise
source_by c otherwise (l ∷ selections) = if nat_le c l.last then l.source else source_by c otherwise selections

-- what brings the word of a place at a number of the counter
abbrev pub source_in : ℕ → ProgramSite → WordSource
source_in c site = source_by c site.otherwise site.selections

-- how many places of a plain tree read
abbrev pub site_count : Tree → ℕ
site_count (reference place m) = 1
site_count (constant n) = 0
site_count (binary g l r) = site_count l + site_count r
site_count (choice l c r x y) = site_count l + site_count r + site_count x + site_count y
site_count (pick place choices n) = 1
site_count _ = 0

-- ---- lanes

-- a tree, and what brings the word of each place that reads
pub record Work : Type 0 where
  pub sites : List ProgramSite
  pub tree : Tree

-- in these windows, this work
pub record Mode : Type 0 where
  pub windows : List Window
  pub work : Work

-- whether the number of the counter is in one of its windows
abbrev pub is_active : ℕ → Mode → Bool
is_active c m = list_any (has_number c) m.windows

-- a lane of a cell: what it works on in each mode, and the greatest delay at which it is read. The lane of rank 0 has the cell's value, the
-- others have its pipelines.
pub record Lane : Type 0 where
  pub home : ℕ
  pub rank : ℕ
  pub width : Width
  pub modes : List Mode
  pub length : ℕ

-- the mode of this number; without it, one that is never active
abbrev pub no_mode : Mode
no_mode = record { windows = []; work = record { sites = []; tree = constant 0 } }

abbrev pub mode_at : List Mode → ℕ → Mode
mode_at modes k = slice_index_or modes k no_mode

-- ---- programs

-- the widths of the input ports, the lanes, cell by cell, of each cell its lanes and its kind, the lane of each output port, and a number above
-- all ranks
pub record Program : Type 0 where
  pub inputs : List Width
  pub lanes : List Lane
  pub cells : List CellLanes
  pub kinds : List ℕ
  pub outputs : List ℕ
  pub stride : ℕ

-- the lanes of a cell
abbrev pub lanes_of : Program → CellLanes → List Lane
lanes_of program own = take (suc (own.value - own.first)) (drop own.first program.lanes)

-- ---- what holds of each program

-- the source has words of the width: a number of it, an input port, or a lane in an earlier cycle, whose line is long enough
abbrev pub IsSource : Program → Width → WordSource → Type 0
IsSource program w (Word n) = IsWord w.bits n
IsSource program w (Input k) = slice_get program.inputs k ≡ Some w
IsSource program w (Line q d) = (lane : Lane) × (slice_get program.lanes q ≡ Some lane) × (lane.width ≡ w) × (d ≤ lane.length) × (0 < d)

-- a place of the lane q, of the cell whose lanes have numbers from `first` on: sources of its width up to numbers of 12 bits, or an earlier lane of the
-- cell in the same cycle
abbrev pub IsInletOf : Program → ℕ → ℕ → Inlet → ProgramSite → Type 0
IsInletOf program first q Inputs site = AllByRecursion (λ (l : Selection). (l.last < 2 ^ 12) × IsSource program site.width l.source) site.selections × IsSource program site.width site.otherwise
IsInletOf program first q Taps site = AllByRecursion (λ (l : Selection). (l.last < 2 ^ 12) × IsSource program site.width l.source) site.selections × IsSource program site.width site.otherwise
IsInletOf program first q (Pipe h) site =
    (lane : Lane) × (slice_get program.lanes (first + h) ≡ Some lane) × (lane.width ≡ site.width) × (first + h < q) × (site.selections ≡ []) × (site.otherwise ≡ Line (first + h) 0)

abbrev pub IsSite : Program → ℕ → ℕ → ProgramSite → Type 0
IsSite program first q site = IsInletOf program first q site.inlet site

-- the numbers of a tree are words
abbrev pub FitsTree : ℕ → Tree → Type 0
FitsTree w (constant k) = IsWord w k
FitsTree w (binary g l r) = FitsTree w l × FitsTree w r
FitsTree w (choice l c r x y) = FitsTree w l × FitsTree w r × FitsTree w x × FitsTree w y
FitsTree w _ = Unit {0}

-- a mode of the lane q, whose words have so many bits: a site for each place of its tree that reads, and windows of numbers of 12 bits
pub record IsModeOf (program : Program) (first q w : ℕ) (m : Mode) : Type 0 where
  pub tree : FitsTree w m.work.tree
  pub many : length m.work.sites ≡ site_count m.work.tree
  pub sites : AllByRecursion (IsSite program first q) m.work.sites
  pub windows : AllByRecursion (λ (i : Window). (i.first < 2 ^ 12) × (i.last < 2 ^ 12)) m.windows

-- the lane q of the cell p
pub record IsLaneOf (program : Program) (first p q : ℕ) (lane : Lane) : Type 0 where
  pub home : lane.home ≡ p
  pub rank : lane.rank < program.stride
  pub short : lane.length < 2 ^ 32
  pub modes : AllByRecursion (IsModeOf program first q lane.width.bits) lane.modes
  -- some mode is active at some time, and no two at one number
  pub some : (k : ℕ) × (m : Mode) × (slice_get lane.modes k ≡ Some m) × (0 < length m.windows)
  pub alone : (c i j : ℕ) (m n : Mode) → slice_get lane.modes i ≡ Some m → slice_get lane.modes j ≡ Some n → is_active c m ≡ true → is_active c n ≡ true → i ≡ j

-- the cells have the lanes from q on up to a number, one cell after another
abbrev pub AreInTurn : ℕ → List CellLanes → ℕ → Type 0
AreInTurn q [] count = q ≡ count
AreInTurn q (own ∷ cells) count = (own.first ≡ q) × (own.first ≤ own.value) × AreInTurn (suc own.value) cells count

-- ---- cells of one kind have the same trees in the same modes, whose words come from places of the same sorts

pub record AreAlikeSites (a b : ProgramSite) : Type 0 where
  pub inlet : a.inlet ≡ b.inlet
  pub width : a.width ≡ b.width

abbrev pub Paired : {X : Type 0} → (X → X → Type 0) → List X → List X → Type 0
Paired R [] [] = Unit {0}
Paired R (x ∷ xs) (y ∷ ys) = R x y × Paired R xs ys
Paired R [] (y ∷ ys) = ⊥
Paired R (x ∷ xs) [] = ⊥

pub record AreAlikeModes (m n : Mode) : Type 0 where
  pub tree : m.work.tree ≡ n.work.tree
  pub sites : Paired AreAlikeSites m.work.sites n.work.sites

pub record AreAlikeLanes (a b : Lane) : Type 0 where
  pub width : a.width ≡ b.width
  pub modes : Paired AreAlikeModes a.modes b.modes

pub record IsProgram (program : Program) : Type 0 where
  pub in_turn : AreInTurn 0 program.cells (length program.lanes)
  pub lanes : (p q : ℕ) (own : CellLanes) (lane : Lane) → slice_get program.cells p ≡ Some own → own.first ≤ q → q ≤ own.value → slice_get program.lanes q ≡ Some lane → IsLaneOf program own.first p q lane
  -- the lanes of one cell have different ranks
  pub apart : (q r : ℕ) (a b : Lane) → slice_get program.lanes q ≡ Some a → slice_get program.lanes r ≡ Some b → a.home ≡ b.home → a.rank ≡ b.rank → q ≡ r
  -- each cell has a kind, and the kinds are numbered from 0
  pub kinds : length program.kinds ≡ length program.cells
  pub numbered : (p k j : ℕ) → slice_get program.kinds p ≡ Some k → j ≤ k → (i : ℕ) × (slice_get program.kinds i ≡ Some j)
  pub alike : (p q k : ℕ) (own other : CellLanes) → slice_get program.kinds p ≡ Some k → slice_get program.kinds q ≡ Some k → slice_get program.cells p ≡ Some own → slice_get program.cells q ≡ Some other
      → Paired AreAlikeLanes (lanes_of program own) (lanes_of program other)
  pub outputs : AllByRecursion (λ q. q < length program.lanes) program.outputs
  pub inputs_few : length program.inputs < 2 ^ 32
  pub cells_few : length program.cells < 2 ^ 32
  pub outputs_few : length program.outputs < 2 ^ 32
  pub ranks_few : program.stride < 2 ^ 64
