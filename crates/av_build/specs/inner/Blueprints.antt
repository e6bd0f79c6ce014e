-- The lanes of an array before they are built: what stands on each cell, and what each lane is for.
use Rattle.std.specs.Prelude.{◌≡◌, ℕ, suc, ◌+◌, ◌<◌, Bool, false, nat_eq, Option, Some, None, List, [], ◌∷◌, ◌++◌, map, slice_get, length, if◌then◌else◌}
use Rattle.av_tree.specs.Points.{Point}
use Rattle.av_flat.specs.Trees.{view_piece, view_variable}
use Rattle.av_space.specs.declared.array.Array.{Array as ArrayMade}
use Rattle.av_space.specs.declared.spots.Site.{Site}
use Rattle.av_space.specs.declared.spots.Spot.{Spot as SpotMade}
use Rattle.av_space.specs.Taps.{Pipeline}
use Rattle.av_space.specs.Spots.{system_of, helpers_of, placings_of, cells_of, IsArray, AreSpots, AreSites, ComputesIn}
use Rattle.av_kinds.specs.declared.counter.Counter.{Counter}
use Rattle.av_kinds.specs.Counters.{IsCounter, number_count}
use Rattle.av_history.specs.Performing.{Array, Lanes, Spot}
use Rattle.av_build.specs.declared.blueprint.Blueprint.{Blueprint}
use Rattle.av_build.specs.declared.blueprint.CellPlan.{CellPlan}
use Rattle.av_build.specs.declared.blueprint.HelperPlan.{HelperPlan}
use Rattle.av_build.specs.declared.blueprint.LanePlan.{LanePlan}
use Rattle.av_build.specs.declared.blueprint.Pieces.{Pieces}
use Rattle.av_build.specs.inner.SpotPlans.{spot_by}

-- ---- the array

abbrev pub seen : ArrayMade → Array
seen w = record { system = system_of w; helpers = helpers_of w; times = placings_of w; cells = cells_of w; links = w.cells.now.links; ports = w.cells.now.inputs }

abbrev pub spot_of : SpotMade → Spot
spot_of at = record { cell = at.cell.0; node = at.node.0; variable = view_variable at.var.now; number = at.number; piece = view_piece at.piece.now }

-- the pieces on a cell with their computations
abbrev pub spots_on : ArrayMade → Pieces → List SpotMade
spots_on w pieces = map (spot_by w) pieces.spots

-- the pieces on the cell p, and the places of each that read
pub record ArePieces (w : ArrayMade) (p : ℕ) (pieces : Pieces) : Type 0 where
  pub spots : AreSpots w p (spots_on w pieces)
  pub one_each : length pieces.sites ≡ length (spots_on w pieces)
  pub sites : (k : ℕ) (spot : SpotMade) (own : List Site) → slice_get (spots_on w pieces) k ≡ Some spot → slice_get pieces.sites k ≡ Some own → AreSites w spot own

-- ---- the helpers on a cell, in the order of its pieces and their places

abbrev pub with_helper : ℕ → ℕ → Option Pipeline → List HelperPlan → List HelperPlan
with_helper k i None helpers = helpers
with_helper k i (Some h) helpers = record { number = h.number; piece = k; site = i } ∷ helpers

-- those of the places of the piece k from the i-th on
abbrev pub site_helpers : ℕ → ℕ → List Site → List HelperPlan
site_helpers k i [] = []
site_helpers k i (site ∷ sites) = with_helper k i site.pipeline (site_helpers k (suc i) sites)

-- of the pieces from the k-th on
abbrev pub helpers_from : ℕ → List (List Site) → List HelperPlan
helpers_from k [] = []
helpers_from k (sites ∷ pieces) = site_helpers k 0 sites ++ helpers_from (suc k) pieces

abbrev pub helpers_on : Pieces → List HelperPlan
helpers_on pieces = helpers_from 0 pieces.sites

-- ---- lanes: of each cell those of its helpers, and then that of its value

abbrev pub of_helper : ℕ → HelperPlan → LanePlan
of_helper p h = record { cell = record { 0 = p }; helper = Some h }

abbrev pub own_lanes : ℕ → Pieces → List LanePlan
own_lanes p pieces = map (of_helper p) (helpers_on pieces) ++ record { cell = record { 0 = p }; helper = None } ∷ []

-- of the cells from the p-th on
abbrev pub lanes_from : ℕ → List CellPlan → List LanePlan
lanes_from p [] = []
lanes_from p (plan ∷ cells) = own_lanes p plan.pieces ++ lanes_from (suc p) cells

-- of the helper with this number
abbrev pub is_number : Option HelperPlan → ℕ → Bool
is_number None j = false
is_number (Some h) j = nat_eq h.number j

abbrev pub is_of_helper : LanePlan → ℕ → Bool
is_of_helper lane j = is_number lane.helper j

-- the helpers of the places of the piece k are put behind others
abbrev pub AddsHelpers : Pieces → ℕ → List HelperPlan → List HelperPlan → Type 0
AddsHelpers pieces k old new = (own : List Site) → slice_get pieces.sites k ≡ Some own → new ≡ old ++ site_helpers k 0 own

-- the numbers of the lanes of cells, from the q-th on
abbrev pub AreNumbered : ℕ → List CellPlan → Type 0
AreNumbered q [] = Unit {0}
AreNumbered q (plan ∷ cells) = (plan.lanes.first ≡ q) × (plan.lanes.value ≡ q + length (helpers_on plan.pieces)) × AreNumbered (suc plan.lanes.value) cells

-- what stands on the first n cells, with their lanes
pub record AreCellPlans (w : ArrayMade) (n : ℕ) (cells : List CellPlan) (lanes : List LanePlan) : Type 0 where
  pub one_each : length cells ≡ n
  pub pieces : (p : ℕ) (plan : CellPlan) → slice_get cells p ≡ Some plan → ArePieces w p plan.pieces
  pub lanes_are : lanes ≡ lanes_from 0 cells
  pub numbered : AreNumbered 0 cells

pub record IsBlueprint (b : Blueprint) : Type 0 where
  pub array : IsArray b.array
  pub plans : AreCellPlans b.array (length (cells_of b.array)) b.cells b.lanes

-- ---- lanes by cell and helper

-- the place of the helper j, or how many there are where it is none of them
abbrev pub helper_place : ℕ → List HelperPlan → ℕ
helper_place j [] = 0
helper_place j (h ∷ helpers) = if nat_eq h.number j then 0 else suc (helper_place j helpers)

abbrev pub value_in : Option CellPlan → ℕ
value_in None = 0
value_in (Some plan) = plan.lanes.value

abbrev pub helper_in : ℕ → Option CellPlan → ℕ
helper_in j None = 0
helper_in j (Some plan) = plan.lanes.first + helper_place j (helpers_on plan.pieces)

abbrev pub lanes_of : List CellPlan → Lanes
lanes_of cells = record { of_value = λ p. value_in (slice_get cells p); of_helper = λ j p. helper_in j (slice_get cells p) }

-- the helper is one of those on the cell
pub record HasHelper (b : Blueprint) (p j : ℕ) : Type 0 where
  pub plan : CellPlan
  pub is_plan : slice_get b.cells p ≡ Some plan
  pub index : ℕ
  pub helper : HelperPlan
  pub is_helper : slice_get (helpers_on plan.pieces) index ≡ Some helper
  pub number : helper.number ≡ j

-- the piece is one of those on its cell, with its places
pub record IsSpotOn (b : Blueprint) (at : SpotMade) (sites : List Site) : Type 0 where
  pub plan : CellPlan
  pub is_plan : slice_get b.cells at.cell.0 ≡ Some plan
  pub number : ℕ
  pub is_spot : slice_get (spots_on b.array plan.pieces) number ≡ Some at
  pub are_sites : slice_get plan.pieces.sites number ≡ Some sites

-- the place is one of such a piece
pub record IsPlaceOn (b : Blueprint) (at : SpotMade) (place : Site) : Type 0 where
  pub sites : List Site
  pub spot_on : IsSpotOn b at sites
  pub index : ℕ
  pub is_place : slice_get sites index ≡ Some place

-- ---- what the counter tells apart

-- no two computations of a cell are as many cycles apart as the counter has numbers
pub record IsCounted (w : ArrayMade) (counter : Counter) : Type 0 where
  pub counts : IsCounter counter
  pub within : (p c d m n : ℕ) (y z : Point) → ComputesIn w p c m y → ComputesIn w p d n z → d < c + number_count counter
