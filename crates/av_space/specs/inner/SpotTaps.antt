-- Tap sites and input ports of the pieces on the cells of an array.
use Rattle.std.specs.Prelude.{◌≡◌, ℕ, ◌<◌, true, IsTrue, Option, Some, length, slice_get}
use Rattle.av_affine.specs.declared.map.Map.{Map}
use Rattle.av_tree.specs.Points.{Point}
use Rattle.av_flat.specs.Trees.{Tree, Variable, FlatSystem, view, view_piece, view_variable, reference, pick}
use Rattle.av_flat.specs.Broadcasts.{references}
use Rattle.av_flat.specs.Nodes.{nodes, node_place}
use Rattle.av_flat.specs.Signatures.{is_input}
use Rattle.av_space.specs.declared.array.Array.{Array}
use Rattle.av_space.specs.declared.cells.Cell.{Cell}
use Rattle.av_space.specs.declared.layout.Slot.{Slot}
use Rattle.av_space.specs.declared.spots.Site.{Site}
use Rattle.av_space.specs.declared.spots.Spot.{Spot}
use Rattle.av_flat.specs.Sites.{Place}
use Rattle.av_space.specs.Taps.{Pipeline, Tap, taps, IsReadBy, IsTapRead}
use Rattle.av_depend.specs.ComputedPlaces.{computed_at}
use Rattle.av_space.specs.Spots.{system_of, helpers_of, cells_of, own_way, IsSiteOf, IsLinkedBy}

-- the variable of the node of a cell
pub record IsVariableOn (a : Array) (p : ℕ) (v : Variable) : Type 0 where
  pub cell : Cell
  pub is_cell : slice_get (cells_of a) p ≡ Some cell
  pub is_variable : slice_get (nodes (system_of a)) cell.node ≡ Some v

-- it has a piece with this number
pub record HasPiece (a : Array) (p number : ℕ) : Type 0 where
  pub variable : Variable
  pub on : IsVariableOn a p variable
  pub within : number < length variable.pieces

-- a tap site of a piece on a cell
pub record IsSpotTap (a : Array) (at : Spot) (tap : Tap) : Type 0 where
  pub number : ℕ
  pub is_tap : slice_get (taps (system_of a) (helpers_of a) (node_place (system_of a) at.node.0) (view_variable at.var.now)) number ≡ Some tap
  pub piece_is : tap.place.piece ≡ at.number

-- the tap of a place with its helper
abbrev pub own_tap : Place → Option Pipeline → Tap
own_tap p h = record { place = p; way = own_way h }

-- it reads at a computation
pub record IsReadThere (a : Array) (at : Spot) (tap : Tap) (slot : Slot) : Type 0 where
  pub node : ℕ
  pub point : Point
  pub reads : IsTapRead (system_of a) at.node.0 tap.place.tree tap.way (view_piece at.piece.now) slot.point node point

-- it reads at a computation, and a link brings what it reads from the cell q, with the delay d
abbrev pub IsReadOver : Array → Spot → Tap → Slot → ℕ → ℕ → Type 0
IsReadOver a at tap slot q d = IsReadThere a at tap slot × IsLinkedBy a at slot.cycle tap q d

-- the tree reads nothing at a point
abbrev pub ReadsNothing : Tree → Point → Type 0
ReadsNothing tree z = (place : ℕ) (y : Point) → IsReadBy tree z place y → ⊥

-- what the place reads is computed
abbrev pub IsComputedRead : FlatSystem → Tree → Type 0
IsComputedRead s (reference place m) = computed_at (slice_get s.variables place) ≡ true
IsComputedRead s (pick place choices n) = computed_at (slice_get s.variables place) ≡ true
IsComputedRead s _ = ⊥

-- a reference to an input
pub record IsPortSite (a : Array) (at : Spot) (site : Site) : Type 0 where
  pub is : IsSiteOf a at site
  pub place : ℕ
  pub map : Map
  pub tree : view site.place.tree ≡ reference place map
  pub read : Variable
  pub is_read : slice_get (system_of a).variables place ≡ Some read
  pub input : IsTrue (is_input read.kind)
  pub is_reference : slice_get (references (view at.piece.now.tree)) site.place.site ≡ Some (record { place = place; map = map })
