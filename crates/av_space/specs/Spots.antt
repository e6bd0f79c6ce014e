-- What a netlist is built from: the pieces on each cell of an array with their computations, the places of a piece that
-- read, and where each of them reads.
use Rattle.std.specs.Prelude.{◌≡◌, ℕ, ◌<◌, ◌≤◌, List, All, AllPairs, Contains, IsTrue, Option, Some, None, length, map, slice_get}
use Rattle.av_affine.specs.declared.map.Map.{Map}
use Rattle.av_poly.specs.Points.{Set}
use Rattle.av_tree.specs.Points.{Point}
use Rattle.av_flat.specs.declared.timed.Helper.{Helper}
use Rattle.av_flat.specs.Trees.{Tree, Piece, Variable, FlatSystem, view, view_piece, view_variable, view_system, reference, pick}
use Rattle.av_flat.specs.Helped.{before}
use Rattle.av_flat.specs.Points.{has}
use Rattle.av_flat.specs.Signatures.{is_input}
use Rattle.av_flat.specs.Values.{picked}
use Rattle.av_flat.specs.Broadcasts.{references}
use Rattle.av_flat.specs.Legal.{IsLegal}
use Rattle.av_flat.specs.Nodes.{is_node, nodes, node_place}
use Rattle.av_space.specs.declared.array.Array.{Array}
use Rattle.av_space.specs.declared.cells.Cell.{Cell}
use Rattle.av_space.specs.declared.cells.Link.{Link}
use Rattle.av_space.specs.declared.layout.Slot.{Slot}
use Rattle.av_space.specs.declared.numbers.CellNumber.{CellNumber}
use Rattle.av_space.specs.declared.origin.Origin.{Origin}
use Rattle.av_space.specs.declared.origin.Origin.TheVariants as origin
use Rattle.av_space.specs.declared.spots.Ends.{Ends}
use Rattle.av_space.specs.declared.spots.Site.{Site}
use Rattle.av_space.specs.declared.spots.Spot.{Spot}
use Rattle.av_space.specs.Coordinates.{Placing}
use Rattle.av_space.specs.Occupancy.{Computes}
use Rattle.av_flat.specs.Sites.{Place, places_in, place_of}
use Rattle.av_space.specs.Taps.{Pipeline, helper_at, Way, each, entries, handed, Tap, taps}
use Rattle.av_space.specs.Links.{IsInLink, AreLinks}
use Rattle.av_space.specs.Ports.{ArePorts}
use Rattle.av_space.specs.Whole.{IsWhole}
use Rattle.av_space.specs.Layouts.{IsLayout}
use Rattle.av_space.specs.Lengths.{AreLengths}

-- ---- the array

abbrev pub system_of : Array → FlatSystem
system_of a = view_system a.timed.now.flat

abbrev pub helpers_of : Array → List Helper
helpers_of a = a.timed.now.helpers

abbrev pub placings_of : Array → List Placing
placings_of a = a.layout.placements

abbrev pub cells_of : Array → List Cell
cells_of a = a.layout.cells

-- the cell p computes (n, z) in cycle c
abbrev pub ComputesIn : Array → ℕ → ℕ → ℕ → Point → Type 0
ComputesIn a p c n z = Computes (system_of a) (placings_of a) (cells_of a) p c n z

-- its cells, links and ports are those of a legal system, and so are its nodes
pub record IsArray (a : Array) : Type 0 where
  pub legal : IsLegal a.timed.now
  pub whole : IsWhole a.timed.now a.cells.now
  pub layout : IsLayout a.timed.now a.layout
  pub nodes : a.nodes ≡ a.timed.now
  pub same_placings : whole.list.placings ≡ placings_of a
  pub same_cells : a.cells.now.cells ≡ cells_of a
  pub links : AreLinks (system_of a) (helpers_of a) (placings_of a) (cells_of a) a.cells.now.links
  pub ports : ArePorts (system_of a) (helpers_of a) (placings_of a) (cells_of a) a.cells.now.inputs
  pub lengths : AreLengths (system_of a) (helpers_of a) (cells_of a) a.cells.now.links a.lengths

-- ---- pieces on cells

-- the computation of the node n on the cell p is a point of the set
pub record IsSlotIn (a : Array) (p n : ℕ) (set : Set) (t : Slot) : Type 0 where
  pub computes : ComputesIn a p t.cycle n t.point
  pub within : IsTrue (has set t.point)

-- all such computations, by cycle
pub record AreSlotsIn (a : Array) (p n : ℕ) (set : Set) (slots : List Slot) : Type 0 where
  pub each : All (IsSlotIn a p n set) slots
  pub all : (c : ℕ) (z : Point) → ComputesIn a p c n z → IsTrue (has set z) → Contains slots (record { cycle = c; point = z })
  pub order : AllPairs (λ t u. t.cycle < u.cycle) slots

-- a piece of the variable of a cell's node, with its computations there
pub record IsSpot (a : Array) (at : Spot) : Type 0 where
  pub cell : Cell
  pub is_cell : slice_get (cells_of a) at.cell.0 ≡ Some cell
  pub node : cell.node ≡ at.node.0
  pub place : at.place.0 ≡ node_place (system_of a) at.node.0
  pub is_variable : slice_get (nodes (system_of a)) at.node.0 ≡ Some (view_variable at.var.now)
  pub is_piece : slice_get (view_variable at.var.now).pieces at.number ≡ Some (view_piece at.piece.now)
  pub are_slots : AreSlotsIn a at.cell.0 at.node.0 at.piece.now.domain at.slots

-- the pieces with a computation on the cell p, by their numbers
pub record AreSpots (a : Array) (p : ℕ) (spots : List Spot) : Type 0 where
  pub each : All (λ at. (at.cell.0 ≡ p) × (0 < length at.slots) × IsSpot a at) spots
  pub all : (c n : ℕ) (z : Point) (v : Variable) (k : ℕ) (piece : Piece) → ComputesIn a p c n z → slice_get (nodes (system_of a)) n ≡ Some v
      → slice_get v.pieces k ≡ Some piece → IsTrue (has piece.domain z) → Contains (map (λ at. at.number) spots) k
  pub order : AllPairs (λ at of. at.number < of.number) spots

-- the first and the last cycle of these computations
pub record AreEnds (slots : List Slot) (ends : Ends) : Type 0 where
  pub first : (z : Point) × Contains slots (record { cycle = ends.first; point = z })
  pub last : (z : Point) × Contains slots (record { cycle = ends.last; point = z })
  pub between : All (λ t. (ends.first ≤ t.cycle) × (t.cycle ≤ ends.last)) slots

-- ---- places that read

-- the helper of a place that is a reference, of the variable at the place `own`
abbrev pub pipeline_by : List Helper → ℕ → Place → Tree → Option Pipeline
pipeline_by hs own p (reference place m) = helper_at hs own p.piece p.site
pipeline_by hs own p _ = None

-- a place of the piece, with its helper
pub record IsSiteOf (a : Array) (at : Spot) (site : Site) : Type 0 where
  pub is_place : Contains (places_in at.number 0 (view at.piece.now.tree)) (place_of site.place)
  pub pipeline : site.pipeline ≡ pipeline_by (helpers_of a) at.place.0 (place_of site.place) (view site.place.tree)

-- all of them, in the order of the text
pub record AreSites (a : Array) (at : Spot) (sites : List Site) : Type 0 where
  pub places : map (λ site. place_of site.place) sites ≡ places_in at.number 0 (view at.piece.now.tree)
  pub each : All (IsSiteOf a at) sites

-- ---- where they read

-- in cycle c a link brings a tap of the spot from the cell q, with the delay d
pub record IsLinkedBy (a : Array) (at : Spot) (c : ℕ) (tap : Tap) (q d : ℕ) : Type 0 where
  pub number : ℕ
  pub is_tap : slice_get (taps (system_of a) (helpers_of a) (node_place (system_of a) at.node.0) (view_variable at.var.now)) number ≡ Some tap
  pub link : Link
  pub is_link : Contains a.cells.now.links link
  pub in_link : IsInLink at.cell.0 number c link
  pub producer_is : q ≡ link.producer
  pub delay_is : d ≡ link.delay

-- along the pipeline of a helper
abbrev pub handed_tap : Place → Pipeline → Tap
handed_tap p h = record { place = p; way = handed h.number h.direction }

-- the point before a computation, in the direction of a helper, is in the spot's piece
abbrev pub HasPointBefore : Spot → Slot → Pipeline → Type 0
HasPointBefore at t h = IsTrue (has at.piece.now.domain (before t.point h.direction))

-- a reference with a helper is read at the entry points of the direction alone
abbrev pub own_way : Option Pipeline → Way
own_way None = each
own_way (Some h) = entries h.direction

-- in cycle c the reference with the number i, to the variable at a place under the map m, reads at a port, or over a link
pub data IsReferenceOrigin (a : Array) (at : Spot) (c i place : ℕ) (m : Map) (way : Way) : Origin → Type 0 where
  at_port : (n : ℕ) (read : Variable) → slice_get (system_of a).variables place ≡ Some read → IsTrue (is_input read.kind)
      → slice_get (references (view at.piece.now.tree)) i ≡ Some (record { place = place; map = m })
      → slice_get a.cells.now.inputs n ≡ Some (record { cell = at.cell.0; piece = at.number; site = i })
      → IsReferenceOrigin a at c i place m way (origin.Port n)
  over_link : (q : CellNumber) (d : ℕ) (read : Variable) → slice_get (system_of a).variables place ≡ Some read → IsTrue (is_node read)
      → IsLinkedBy a at c (record { place = record { piece = at.number; site = i; tree = reference place m }; way = way }) q.0 d
      → IsReferenceOrigin a at c i place m way (origin.Value q d)

-- a pick of the variable at a place reads over a link where a choice holds, and else has its number
abbrev pub IsPickOrigin : Array → Spot → ℕ → Place → ℕ → ℕ → Option Point → Origin → Type 0
IsPickOrigin a at c p place n None o = o ≡ origin.Number (record { bits = n })
IsPickOrigin a at c p place n (Some y) o =
    (q : CellNumber) × (d : ℕ) × (read : Variable) × (slice_get (system_of a).variables place ≡ Some read) × IsTrue (is_node read)
    × IsLinkedBy a at c (record { place = p; way = each }) q.0 d × (o ≡ origin.Value q d)

-- where a place of the spot, with its helper, reads itself at a computation
abbrev pub IsOriginBy : Array → Spot → Slot → Place → Option Pipeline → Tree → Origin → Type 0
IsOriginBy a at t p h (reference place m) o = IsReferenceOrigin a at t.cycle p.site place m (own_way h) o
IsOriginBy a at t p h (pick place choices n) o = IsPickOrigin a at t.cycle p place n (picked choices t.point) o
IsOriginBy a at t p h _ o = ⊥
