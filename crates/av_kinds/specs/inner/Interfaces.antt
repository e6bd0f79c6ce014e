-- The input ports of a kind, in the order of its lanes, modes and places, and what its lanes take from them.
use Rattle.std.specs.Prelude.{ℕ, suc, zero, ◌+◌, ◌*◌, List, [], ◌∷◌, ◌++◌}
use Rattle.av_base.specs.declared.width.Width.{Width}
use Rattle.av_net.specs.declared.operation.Operand.{Operand}
use Rattle.av_net.specs.declared.operation.Operand.TheVariants.{Name}
use Rattle.av_net.specs.declared.netlist.Port.{Port}
use Rattle.av_flat.specs.Trees.{constant}
use Rattle.av_kinds.specs.declared.program.Inlet.{Inlet}
use Rattle.av_kinds.specs.declared.program.Inlet.TheVariants.{Inputs, Taps, Pipe}
use Rattle.av_kinds.specs.Names.{Naming, input_name, tap_name, bound_name, pipe_name}
use Rattle.av_kinds.specs.declared.choice.Guard.{Guard}
use Rattle.av_kinds.specs.declared.choice.Guard.TheVariants.{UpTo, Within}
use Rattle.av_kinds.specs.declared.choice.Arm.{Arm}
use Rattle.av_kinds.specs.declared.choice.Tap.{Tap}
use Rattle.av_kinds.specs.inner.Cells.{Datapath, GuardedDatapath, LaneDatapaths}
use Rattle.av_kinds.specs.Counters.{counter_width}
use Rattle.av_kinds.specs.Tops.{port}
use Rattle.av_kinds.specs.declared.shape.SiteShape.{SiteShape}
use Rattle.av_kinds.specs.inner.Shapes.{ModeShape}

-- how many ports of each letter there are so far
pub record PortCounts : Type 0 where
  pub inputs : ℕ
  pub taps : ℕ
  pub bounds : ℕ

-- so many ports, with numbers from k on
abbrev pub ports_by : Naming → Width → ℕ → ℕ → List Port
ports_by name w k zero = []
ports_by name w k (suc n) = port w (name k) ∷ ports_by name w (k + 1) n

abbrev pub bounds_by : ℕ → ℕ → List Port
bounds_by k n = ports_by bound_name counter_width k n

-- ---- a place

abbrev pub ports_in : PortCounts → Inlet → Width → ℕ → List Port
ports_in at Inputs w n = ports_by input_name w at.inputs (suc n) ++ bounds_by at.bounds n
ports_in at Taps w n = ports_by tap_name w at.taps (suc n) ++ bounds_by at.bounds n
ports_in at (Pipe h) w n = []

abbrev pub past : PortCounts → Inlet → ℕ → PortCounts
past at Inputs n = record { inputs = at.inputs + suc n; taps = at.taps; bounds = at.bounds + n }
past at Taps n = record { inputs = at.inputs; taps = at.taps + suc n; bounds = at.bounds + n }
past at (Pipe h) n = at

abbrev pub site_ports : PortCounts → SiteShape → List Port
site_ports at site = ports_in at site.inlet site.width site.selections

abbrev pub past_site : PortCounts → SiteShape → PortCounts
past_site at site = past at site.inlet site.selections

-- up to each of so many bounds, a word
abbrev pub options_by : Naming → ℕ → ℕ → ℕ → List Arm
options_by name k b zero = []
options_by name k b (suc n) = record { guard = UpTo (Name (bound_name b)); operand = Name (name k) } ∷ options_by name (k + 1) (b + 1) n

-- the last of so many words behind the first
abbrev pub last_by : Naming → ℕ → ℕ → Operand
last_by name k zero = Name (name k)
last_by name k (suc n) = last_by name (k + 1) n

-- up to each of so many bounds a word, and behind them the last one
abbrev pub tap_by : Naming → Width → ℕ → ℕ → ℕ → Tap
tap_by name w k b n = record { width = w; arms = options_by name k b n; otherwise = last_by name k n }

-- a pipeline's word is one
abbrev pub tap_in : PortCounts → Inlet → Width → ℕ → Tap
tap_in at Inputs w n = tap_by input_name w at.inputs at.bounds n
tap_in at Taps w n = tap_by tap_name w at.taps at.bounds n
tap_in at (Pipe h) w n = record { width = w; arms = []; otherwise = Name (pipe_name h) }

abbrev pub tap_of : PortCounts → SiteShape → Tap
tap_of at site = tap_in at site.inlet site.width site.selections

-- ---- the places of a mode

abbrev pub sites_ports : PortCounts → List SiteShape → List Port
sites_ports at [] = []
sites_ports at (site ∷ sites) = site_ports at site ++ sites_ports (past_site at site) sites

abbrev pub past_sites : PortCounts → List SiteShape → PortCounts
past_sites at [] = at
past_sites at (site ∷ sites) = past_sites (past_site at site) sites

abbrev pub taps_of : PortCounts → List SiteShape → List Tap
taps_of at [] = []
taps_of at (site ∷ sites) = tap_of at site ∷ taps_of (past_site at site) sites

abbrev pub datapath_of : PortCounts → ModeShape → Datapath
datapath_of at mode = record { taps = taps_of at mode.sites; tree = mode.tree }

-- ---- its windows

abbrev pub guards_by : ℕ → ℕ → List Guard
guards_by b zero = []
guards_by b (suc n) = Within (Name (bound_name b)) (Name (bound_name (b + 1))) ∷ guards_by (b + 2) n

-- two bounds for each
abbrev pub window_ports : ℕ → ℕ → List Port
window_ports b zero = []
window_ports b (suc n) = port counter_width (bound_name b) ∷ port counter_width (bound_name (b + 1)) ∷ window_ports (b + 2) n

abbrev pub tested_ports : PortCounts → ModeShape → List Port
tested_ports at mode = sites_ports at mode.sites ++ window_ports (past_sites at mode.sites).bounds mode.windows

abbrev pub past_tested : PortCounts → ModeShape → PortCounts
past_tested at mode = let to = past_sites at mode.sites in record { inputs = to.inputs; taps = to.taps; bounds = to.bounds + 2 * mode.windows }

abbrev pub guarded_of : PortCounts → ModeShape → GuardedDatapath
guarded_of at mode = record { guards = guards_by (past_sites at mode.sites).bounds mode.windows; datapath = datapath_of at mode }

-- ---- a lane: all its modes but the last are tested

abbrev pub modes_ports : PortCounts → List ModeShape → List Port
modes_ports at [] = []
modes_ports at (t ∷ []) = sites_ports at t.sites
modes_ports at (t ∷ u ∷ modes) = tested_ports at t ++ modes_ports (past_tested at t) (u ∷ modes)

abbrev pub past_modes : PortCounts → List ModeShape → PortCounts
past_modes at [] = at
past_modes at (t ∷ []) = past_sites at t.sites
past_modes at (t ∷ u ∷ modes) = past_modes (past_tested at t) (u ∷ modes)

abbrev pub tested_of : PortCounts → List ModeShape → List GuardedDatapath
tested_of at [] = []
tested_of at (t ∷ []) = []
tested_of at (t ∷ u ∷ modes) = guarded_of at t ∷ tested_of (past_tested at t) (u ∷ modes)

abbrev pub last_of : PortCounts → List ModeShape → Datapath
last_of at [] = record { taps = []; tree = constant 0 }
last_of at (t ∷ []) = datapath_of at t
last_of at (t ∷ u ∷ modes) = last_of (past_tested at t) (u ∷ modes)

abbrev pub datapaths_of : PortCounts → List ModeShape → LaneDatapaths
datapaths_of at modes = record { modes = tested_of at modes; otherwise = last_of at modes }
