-- The shape of a kind: of each of its lanes the modes that some cell of the kind has, and how many selections and windows there is room for.
use Rattle.std.specs.Prelude.{◌≡◌, ℕ, ◌<◌, ◌≤◌, ◌⊎◌, List, [], ◌∷◌, length, map, Some, slice_get}
use Rattle.std.specs.List.{AllByRecursion}
use Rattle.av_base.specs.declared.width.Width.{Width}
use Rattle.av_flat.specs.declared.tree.Tree.{Tree as TreeMade}
use Rattle.av_flat.specs.Trees.{Tree, view}
use Rattle.av_kinds.specs.declared.program.Inlet.{Inlet}
use Rattle.av_kinds.specs.declared.program.Inlet.TheVariants.{Inputs, Taps, Pipe}
use Rattle.av_kinds.specs.declared.program.ProgramSite.{ProgramSite}
use Rattle.av_kinds.specs.declared.shape.SiteShape.{SiteShape}
use Rattle.av_kinds.specs.Programs.{site_count, FitsTree, Mode, mode_at, Lane}

-- the mode of this number, with so many windows
pub record ModeShape : Type 0 where
  pub number : ℕ
  pub windows : ℕ
  pub sites : List SiteShape
  pub tree : Tree

pub record LaneShape : Type 0 where
  pub width : Width
  pub modes : List ModeShape

-- ---- as the code keeps them

pub record ModeShapeMade : Type 0 where
  pub number : ℕ
  pub windows : ℕ
  pub sites : List SiteShape
  pub tree : TreeMade

pub record LaneShapeMade : Type 0 where
  pub width : Width
  pub modes : List ModeShapeMade

abbrev pub mode_shape_of : ModeShapeMade → ModeShape
mode_shape_of m = record { number = m.number; windows = m.windows; sites = m.sites; tree = view m.tree }

abbrev pub lane_shape_of : LaneShapeMade → LaneShape
lane_shape_of lane = record { width = lane.width; modes = map mode_shape_of lane.modes }

-- ---- the shape has room for what a cell of the kind has

pub record SuitsSite (shape : SiteShape) (site : ProgramSite) : Type 0 where
  pub inlet : site.inlet ≡ shape.inlet
  pub width : site.width ≡ shape.width
  pub room : length site.selections ≤ shape.selections

abbrev pub SuitSites : List SiteShape → List ProgramSite → Type 0
SuitSites [] [] = Unit {0}
SuitSites (shape ∷ shapes) (site ∷ sites) = SuitsSite shape site × SuitSites shapes sites
SuitSites [] (site ∷ sites) = ⊥
SuitSites (shape ∷ shapes) [] = ⊥

pub record SuitsMode (shape : ModeShape) (mode : Mode) : Type 0 where
  pub sites : SuitSites shape.sites mode.work.sites
  pub tree : mode.work.tree ≡ shape.tree
  pub room : length mode.windows ≤ shape.windows

-- each mode of the shape has room for the lane's
abbrev pub SuitModes : List ModeShape → List Mode → Type 0
SuitModes [] modes = Unit {0}
SuitModes (shape ∷ shapes) modes = SuitsMode shape (mode_at modes shape.number) × SuitModes shapes modes

-- the shape has the mode of this number
abbrev pub HasModeAt : ℕ → List ModeShape → Type 0
HasModeAt k [] = ⊥
HasModeAt k (f ∷ shapes) = (f.number ≡ k) ⊎ HasModeAt k shapes

-- and a mode of the lane for each of its numbers, and each mode that is ever active
pub record SuitsLane (shape : LaneShape) (lane : Lane) : Type 0 where
  pub width : lane.width ≡ shape.width
  pub modes : SuitModes shape.modes lane.modes
  pub numbers : (i : ℕ) (f : ModeShape) → slice_get shape.modes i ≡ Some f → f.number < length lane.modes
  pub active : (k : ℕ) (mode : Mode) → slice_get lane.modes k ≡ Some mode → 0 < length mode.windows → HasModeAt k shape.modes

abbrev pub SuitLanes : List LaneShape → List Lane → Type 0
SuitLanes [] [] = Unit {0}
SuitLanes (shape ∷ shapes) (lane ∷ lanes) = SuitsLane shape lane × SuitLanes shapes lanes
SuitLanes [] (lane ∷ lanes) = ⊥
SuitLanes (shape ∷ shapes) [] = ⊥

-- ---- what a kind can be made of

-- a pipeline that a place of the lane k reads is that of an earlier lane, of the place's width
abbrev pub IsInletShape : List LaneShape → ℕ → Width → Inlet → Type 0
IsInletShape all k w Inputs = Unit {0}
IsInletShape all k w Taps = Unit {0}
IsInletShape all k w (Pipe h) = (lane : LaneShape) × (slice_get all h ≡ Some lane) × (lane.width ≡ w) × (h < k)

abbrev pub IsSiteShape : List LaneShape → ℕ → SiteShape → Type 0
IsSiteShape all k site = IsInletShape all k site.width site.inlet

-- a site for each place of the tree, whose numbers are words of so many bits
pub record IsModeShape (all : List LaneShape) (k w : ℕ) (m : ModeShape) : Type 0 where
  pub many : site_count m.tree ≡ length m.sites
  pub fits : FitsTree w m.tree
  pub sites : AllByRecursion (IsSiteShape all k) m.sites

pub record IsLaneShape (all : List LaneShape) (k : ℕ) (lane : LaneShape) : Type 0 where
  pub some : 0 < length lane.modes
  pub modes : AllByRecursion (IsModeShape all k lane.width.bits) lane.modes

pub record IsKindShape (all : List LaneShape) : Type 0 where
  pub some : 0 < length all
  pub lanes : (k : ℕ) (lane : LaneShape) → slice_get all k ≡ Some lane → IsLaneShape all k lane
