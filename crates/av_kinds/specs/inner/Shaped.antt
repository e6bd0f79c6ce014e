-- How the shape of a kind is found: the shape that has room for the cells before, and for the lanes of one more cell; and of it the modes that
-- some cell has.
use Rattle.std.specs.Prelude.{ℕ, ◌+◌, nat_lt, nat_eq, Bool, List, [], ◌∷◌, filter, length, map, Option, Some, None, max, if◌then◌else◌}
use Rattle.av_kinds.specs.declared.program.CellLanes.{CellLanes}
use Rattle.av_kinds.specs.declared.program.ProgramSite.{ProgramSite}
use Rattle.av_kinds.specs.declared.shape.SiteShape.{SiteShape}
use Rattle.av_kinds.specs.Programs.{Mode, Lane, Program, lanes_of}
use Rattle.av_kinds.specs.inner.Shapes.{ModeShape, LaneShape}

-- a place with room for so many selections, and for its own
abbrev pub site_shape : ℕ → ProgramSite → SiteShape
site_shape least site = record { inlet = site.inlet; width = site.width; selections = max least (length site.selections) }

abbrev pub site_shapes : List SiteShape → List ProgramSite → List SiteShape
site_shapes before [] = []
site_shapes [] (site ∷ sites) = site_shape 0 site ∷ site_shapes [] sites
site_shapes (s ∷ before) (site ∷ sites) = site_shape s.selections site ∷ site_shapes before sites

abbrev pub mode_shape : ℕ → List SiteShape → ℕ → Mode → ModeShape
mode_shape least before number mode = record { number = number; windows = max least (length mode.windows); sites = site_shapes before mode.work.sites; tree = mode.work.tree }

abbrev pub mode_shape_by : Option ModeShape → ℕ → Mode → ModeShape
mode_shape_by None number mode = mode_shape 0 [] number mode
mode_shape_by (Some f) number mode = mode_shape f.windows f.sites number mode

-- with numbers from k on
abbrev pub mode_shapes : List ModeShape → ℕ → List Mode → List ModeShape
mode_shapes before k [] = []
mode_shapes [] k (mode ∷ modes) = mode_shape 0 [] k mode ∷ mode_shapes [] (k + 1) modes
mode_shapes (f ∷ before) k (mode ∷ modes) = mode_shape f.windows f.sites k mode ∷ mode_shapes before (k + 1) modes

abbrev pub lane_shape : List ModeShape → Lane → LaneShape
lane_shape before lane = record { width = lane.width; modes = mode_shapes before 0 lane.modes }

abbrev pub lane_shape_by : Option LaneShape → Lane → LaneShape
lane_shape_by None lane = lane_shape [] lane
lane_shape_by (Some f) lane = lane_shape f.modes lane

abbrev pub lane_shapes : List LaneShape → List Lane → List LaneShape
lane_shapes before [] = []
lane_shapes [] (lane ∷ lanes) = lane_shape [] lane ∷ lane_shapes [] lanes
lane_shapes (f ∷ before) (lane ∷ lanes) = lane_shape f.modes lane ∷ lane_shapes before lanes

-- ---- all cells of a kind, one after another

abbrev pub shapes_by : Program → ℕ → List LaneShape → List CellLanes → List ℕ → List LaneShape
shapes_by program kind before (own ∷ cells) (k ∷ kinds) = if nat_eq k kind then shapes_by program kind (lane_shapes before (lanes_of program own)) cells kinds else shapes_by program kind before cells kinds
shapes_by program kind before [] kinds = before
shapes_by program kind before (own ∷ cells) [] = before

-- the modes that some cell has
abbrev pub is_used : ModeShape → Bool
is_used m = nat_lt 0 m.windows

abbrev pub used : LaneShape → LaneShape
used lane = record { width = lane.width; modes = filter is_used lane.modes }

abbrev pub kind_shape : Program → ℕ → List LaneShape
kind_shape program kind = map used (shapes_by program kind [] program.cells program.kinds)
