-- The lanes of a blueprint as they are built.
use Rattle.std.specs.Prelude.{◌≡◌, ◌↔◌, ◌<◌, ℕ, suc, [], Bool, true, false, nat_eq, IsTrue, Contains, Option, Some, None, List, slice_get, length, drop}
use Rattle.av_tree.specs.Points.{Point}
use Rattle.av_flat.specs.declared.timed.Helper.{Helper}
use Rattle.av_flat.specs.Trees.{Tree, Piece, Variable, FlatSystem, view, view_variable, reference}
use Rattle.av_flat.specs.Points.{has}
use Rattle.av_flat.specs.Broadcasts.{Reference}
use Rattle.av_flat.specs.Nodes.{nodes}
use Rattle.av_space.specs.declared.cells.InPort.{InPort}
use Rattle.av_space.specs.declared.spots.Site.{Site}
use Rattle.av_space.specs.declared.spots.Spot.{Spot as SpotMade}
use Rattle.av_space.specs.Links.{line_length}
use Rattle.av_space.specs.Taps.{Pipeline}
use Rattle.av_space.specs.Spots.{system_of, helpers_of, cells_of, ComputesIn}
use Rattle.av_kinds.specs.declared.counter.Counter.{Counter}
use Rattle.av_kinds.specs.Counters.{count_in}
use Rattle.av_kinds.specs.declared.program.Inlet.TheVariants.{Pipe}
use Rattle.av_kinds.specs.declared.program.ProgramSite.{ProgramSite}
use Rattle.av_kinds.specs.declared.program.WordSource.TheVariants.{Line}
use Rattle.av_kinds.specs.Programs.{Work, Mode, Lane}
use Rattle.av_kinds.specs.Written.{LaneMade, lane_of}
use Rattle.av_history.specs.Performing.{Spot, IsHelper, helper_spot}
use Rattle.av_build.specs.declared.blueprint.Blueprint.{Blueprint}
use Rattle.av_build.specs.declared.blueprint.CellPlan.{CellPlan}
use Rattle.av_build.specs.declared.blueprint.HelperPlan.{HelperPlan}
use Rattle.av_build.specs.declared.blueprint.LanePlan.{LanePlan}
use Rattle.av_build.specs.declared.blueprint.Pieces.{Pieces}
use Rattle.av_build.specs.declared.spots.SpotPlan.{SpotPlan}
use Rattle.av_build.specs.inner.Blueprints.{seen, spot_of, spots_on, lanes_of, helpers_on, IsSpotOn}
use Rattle.av_build.specs.inner.Programmed.{IsPlaceSite, IsWorkFor, IsModeFor, IsValueLane, IsHelperLane, pipe_in}

-- the variable that the place reads is there
abbrev pub HasVariable : FlatSystem → Tree → Type 0
HasVariable s (reference place m) = (v : Variable) × (slice_get s.variables place ≡ Some v)
HasVariable s _ = Unit {0}

-- the helper has a lane on the cell
pub record HasPlan (b : Blueprint) (p : ℕ) (h : HelperPlan) : Type 0 where
  pub plan : CellPlan
  pub is_plan : slice_get b.cells p ≡ Some plan
  pub index : ℕ
  pub is_helper : slice_get (helpers_on plan.pieces) index ≡ Some h

-- the word of the helper's lane on the cell of the piece, in the same cycle
pub record IsPipeSite (b : Blueprint) (at : Spot) (j : ℕ) (site : ProgramSite) : Type 0 where
  pub inlet : (plan : CellPlan) → slice_get b.cells at.cell ≡ Some plan → site.inlet ≡ Pipe (pipe_in (lanes_of b.cells) at.cell plan.lanes.first j)
  pub width : site.width.bits ≡ at.variable.width
  pub selections : site.selections ≡ []
  pub otherwise : site.otherwise ≡ Line ((lanes_of b.cells).of_helper j at.cell) 0

-- what brings the word of a place to the value of a cell
abbrev pub IsValueSite : Blueprint → Counter → SpotMade → Site → ProgramSite → Type 0
IsValueSite b counter at place site =
    (plan : CellPlan) → slice_get b.cells at.cell.0 ≡ Some plan → IsPlaceSite (seen b.array) (count_in counter) (lanes_of b.cells) plan.lanes.first (spot_of at) place.place.site (view place.place.tree) site

-- the work of a piece
abbrev pub IsValueWork : Blueprint → Counter → SpotMade → Work → Type 0
IsValueWork b counter at work = (plan : CellPlan) → slice_get b.cells at.cell.0 ≡ Some plan → IsWorkFor (seen b.array) (count_in counter) (lanes_of b.cells) plan.lanes.first (spot_of at) work

-- the number of a piece on a cell
abbrev pub HasPiece : Blueprint → ℕ → ℕ → Type 0
HasPiece b p k = (plan : CellPlan) × (slice_get b.cells p ≡ Some plan) × (k < length plan.pieces.spots)

-- the mode of the piece with this number
abbrev pub IsValueMode : Blueprint → Counter → ℕ → ℕ → Mode → Type 0
IsValueMode b counter p k mode =
    (plan : CellPlan) (at : SpotMade) → slice_get b.cells p ≡ Some plan → slice_get (spots_on b.array plan.pieces) k ≡ Some at
    → IsValueWork b counter at mode.work × IsModeFor (seen b.array) (count_in counter) p (λ m z. m ≡ at.node.0) (λ m z. IsTrue (has at.piece.now.domain z)) mode

-- the lane of a helper on the cell p, but for what its modes are
pub record IsHelperFrame (b : Blueprint) (p : ℕ) (at : SpotMade) (j : ℕ) (lane : Lane) : Type 0 where
  pub home : lane.home ≡ p
  pub rank : lane.rank ≡ suc j
  pub width : lane.width.bits ≡ (view_variable at.var.now).width
  pub size : lane.length ≡ line_length (system_of b.array) (helpers_of b.array) (cells_of b.array) b.array.cells.now.links p (Some j)

-- a lane with these modes is that of the helper
abbrev pub AreHelperModes : Blueprint → Counter → SpotMade → HelperPlan → List Mode → Type 0
AreHelperModes b counter at h modes =
    (lane : Lane) → IsHelperFrame b at.cell.0 at h.number lane → lane.modes ≡ modes → (helper : Helper) (v : Variable) (piece : Piece) (r : Reference) → IsHelper (seen b.array) h.number helper v piece r
    → IsHelperLane (seen b.array) (count_in counter) (lanes_of b.cells) (helper_spot (seen b.array) helper v piece at.cell.0) h.number helper r lane

-- the helper is one of a place of the piece
pub record IsHelperOn (b : Blueprint) (at : SpotMade) (h : HelperPlan) : Type 0 where
  pub sites : List Site
  pub spot_on : IsSpotOn b at sites
  pub piece_is : h.piece ≡ spot_on.number
  pub place : Site
  pub is_place : slice_get sites h.site ≡ Some place
  pub pipeline : Pipeline
  pub is_pipeline : place.pipeline ≡ Some pipeline
  pub number : h.number ≡ pipeline.number

-- what a plan says is there
abbrev pub IsPlanOn : Blueprint → ℕ → Option HelperPlan → Type 0
IsPlanOn b p None = p < length b.cells
IsPlanOn b p (Some h) = HasPlan b p h

-- the lane of a cell's value, with a mode for each piece on the cell, in their order
pub record IsValueBuilt (b : Blueprint) (counter : Counter) (p : ℕ) (plan : CellPlan) (lane : Lane) : Type 0 where
  pub is_lane : (c n : ℕ) (z : Point) (v : Variable) → ComputesIn b.array p c n z → slice_get (nodes (system_of b.array)) n ≡ Some v
      → IsValueLane (seen b.array) (count_in counter) (lanes_of b.cells) plan.lanes.first p n v lane
  pub one_each : length lane.modes ≡ length (spots_on b.array plan.pieces)
  pub works : (k : ℕ) (mode : Mode) (at : SpotMade) → slice_get lane.modes k ≡ Some mode → slice_get (spots_on b.array plan.pieces) k ≡ Some at → IsValueWork b counter at mode.work

-- the lane is what its plan says
abbrev pub IsBuiltBy : Blueprint → Counter → ℕ → Option HelperPlan → Lane → Type 0
IsBuiltBy b counter p None lane = (plan : CellPlan) → slice_get b.cells p ≡ Some plan → IsValueBuilt b counter p plan lane
IsBuiltBy b counter p (Some h) lane =
    (helper : Helper) (v : Variable) (piece : Piece) (r : Reference) → IsHelper (seen b.array) h.number helper v piece r
    → IsHelperLane (seen b.array) (count_in counter) (lanes_of b.cells) (helper_spot (seen b.array) helper v piece p) h.number helper r lane

-- one for each plan
pub record AreBuilt (b : Blueprint) (counter : Counter) (plans : List LanePlan) (lanes : List LaneMade) : Type 0 where
  pub one_each : length lanes ≡ length plans
  pub each : (q : ℕ) (plan : LanePlan) (lane : LaneMade) → slice_get plans q ≡ Some plan → slice_get lanes q ≡ Some lane → IsBuiltBy b counter plan.cell.0 plan.helper (lane_of lane)

-- ---- the places of ports

abbrev pub is_reference_at : ℕ → ℕ → Tree → Bool
is_reference_at n i (reference place m) = nat_eq i n
is_reference_at n i _ = false

abbrev pub IsReferenceIn : List Site → ℕ → Site → Type 0
IsReferenceIn sites n site = Contains sites site × (is_reference_at n site.place.site (view site.place.tree) ≡ true)

abbrev pub HasReference : List Site → ℕ → Type 0
HasReference sites n = (site : Site) × IsReferenceIn sites n site

-- the place is the reference of the port, among the pieces on its cell
pub record IsPortPlace (pieces : Pieces) (port : InPort) (site : Site) : Type 0 where
  pub number : ℕ
  pub at : SpotPlan
  pub is_spot : slice_get pieces.spots number ≡ Some at
  pub is_piece : at.number ≡ port.piece
  pub sites : List Site
  pub are_sites : slice_get pieces.sites number ≡ Some sites
  pub is_reference : IsReferenceIn sites port.site site

-- it is there, and so are the places of each piece with its number; as many places stand before it
pub record HasPortPlace (pieces : Pieces) (port : InPort) : Type 0 where
  pub site : Site
  pub is_place : IsPortPlace pieces port site
  pub each : (k : ℕ) (at : SpotPlan) → slice_get pieces.spots k ≡ Some at → at.number ≡ port.piece → (sites : List Site) × (slice_get pieces.sites k ≡ Some sites) × HasReference (drop port.site sites) port.site

-- ---- kinds

-- on both cells stand the same pieces of one node
abbrev pub HaveSamePieces : List SpotPlan → List SpotPlan → Type 0
HaveSamePieces a b = (length a ≡ length b) × ((k : ℕ) (x y : SpotPlan) → slice_get a k ≡ Some x → slice_get b k ≡ Some y → (x.node.0 ≡ y.node.0) × (x.number ≡ y.number))

-- the first cells of kinds, of which none has the pieces of the cell
abbrev pub HasNoKind : List CellPlan → List ℕ → CellPlan → Type 0
HasNoKind cells firsts cell = (k first : ℕ) (other : CellPlan) → slice_get firsts k ≡ Some first → slice_get cells first ≡ Some other → HaveSamePieces other.pieces.spots cell.pieces.spots → ⊥

-- or one that has
abbrev pub IsKind : List CellPlan → List ℕ → CellPlan → ℕ → Type 0
IsKind cells firsts cell k = (first : ℕ) × (other : CellPlan) × (slice_get firsts k ≡ Some first) × (slice_get cells first ≡ Some other) × HaveSamePieces other.pieces.spots cell.pieces.spots

-- of each cell the number of its kind: those with the same pieces, and no others, are of one kind; kinds are numbered from 0
pub record AreKindsOf (cells : List CellPlan) (kinds : List ℕ) : Type 0 where
  pub one_each : length kinds ≡ length cells
  pub same : (p q j k : ℕ) (x y : CellPlan) → slice_get cells p ≡ Some x → slice_get cells q ≡ Some y → slice_get kinds p ≡ Some j → slice_get kinds q ≡ Some k → (j ≡ k) ↔ HaveSamePieces x.pieces.spots y.pieces.spots
  pub numbered : (p k j : ℕ) → slice_get kinds p ≡ Some k → j < k → (i : ℕ) × (slice_get kinds i ≡ Some j)
