-- What tap sites read at points: what is taken for granted of a site, and the readings of a site on a cell.
use Rattle.std.specs.Prelude.{◌≡◌, ℕ, ◌+◌, ◌<◌, ◌≤◌, List, All, Contains, IsTrue, Some, slice_get, length, filter}
use Rattle.av_affine.specs.Numbers.{AtMost}
use Rattle.av_affine.specs.Forms.{IsWithinLimits}
use Rattle.av_poly.specs.Points.{Set}
use Rattle.av_tree.specs.Points.{Point}
use Rattle.av_flat.specs.declared.timed.Helper.{Helper}
use Rattle.av_flat.specs.Trees.{Tree, Piece, Variable, FlatSystem, view_variable, reference, pick}
use Rattle.av_flat.specs.Points.{has}
use Rattle.av_flat.specs.Nodes.{nodes, node_place}
use Rattle.av_space.specs.declared.cells.Cell.{Cell}
use Rattle.av_space.specs.declared.layout.Slot.{Slot}
use Rattle.av_space.specs.declared.linking.Consumer.{Consumer}
use Rattle.av_space.specs.declared.stretch.TapReading.{TapReading}
use Rattle.av_space.specs.Coordinates.{Placing}
use Rattle.av_space.specs.Occupancy.{Computes}
use Rattle.av_space.specs.Taps.{Way, each, entries, handed, Tap, taps, IsTapRead}
use Rattle.av_space.specs.Layouts.{AreSlots}
use Rattle.av_space.specs.inner.Scheduled.{Scheduled, IsScheduled, system_of, helpers_of, placings_of, cells_of}
use Rattle.av_space.specs.inner.Stretches.{AreByCycle, tap_reading}

-- ---- sites

-- a map or a set over n indices within the limits, and a variable among `count`
abbrev pub IsReadable : ℕ → ℕ → Tree → Type 0
IsReadable n count (reference place m) = (place < count) × (m.from ≡ n) × All IsWithinLimits m.rows
IsReadable n count (pick place choices w) = (place < count) × All (λ c. (c.set.dim ≡ n) × (c.map.from ≡ n) × All IsWithinLimits c.map.rows) choices
IsReadable n count _ = Unit {0}

abbrev pub IsSmallWay : Way → Type 0
IsSmallWay each = Unit {0}
IsSmallWay (entries w) = AtMost 4095 w
IsSmallWay (handed h w) = AtMost 4095 w

-- a tap site of a piece with n indices
pub record IsFineTap (n count : ℕ) (t : Tap) : Type 0 where
  pub tree : IsReadable n count t.place.tree
  pub way : IsSmallWay t.way

-- a point of a set, within the limit on coordinates
pub record IsSmallIn (set : Set) (z : Point) : Type 0 where
  pub within : IsTrue (has set z)
  pub entries : AtMost 4095 z

-- ---- readings of a site on a cell

-- the site with the number j on the cell p, which has the node n and these computations
pub record IsSiteOn (s : FlatSystem) (hs : List Helper) (placings : List Placing) (cells : List Cell) (p j n : ℕ) (t : Tap) (piece : Piece) (slots : List Slot) : Type 0 where
  pub cell : Cell
  pub is_cell : slice_get cells p ≡ Some cell
  pub node : cell.node ≡ n
  pub are_slots : AreSlots s placings cells p slots
  pub variable : Variable
  pub is_variable : slice_get (nodes s) n ≡ Some variable
  pub is_tap : slice_get (taps s hs (node_place s n) variable) j ≡ Some t
  pub is_piece : slice_get variable.pieces t.place.piece ≡ Some piece

-- a site on a cell
pub record IsSite (s : FlatSystem) (hs : List Helper) (placings : List Placing) (cells : List Cell) (n : ℕ) (t : Tap) (piece : Piece) (slots : List Slot) : Type 0 where
  pub consumer : ℕ
  pub number : ℕ
  pub is : IsSiteOn s hs placings cells consumer number n t piece slots

-- the computations of a site's cell that are points of its piece
pub record HasSite (s : FlatSystem) (hs : List Helper) (placings : List Placing) (cells : List Cell) (n : ℕ) (t : Tap) (piece : Piece) (own : List Slot) : Type 0 where
  pub slots : List Slot
  pub own_is : own ≡ filter (λ x. has piece.domain x.point) slots
  pub site : IsSite s hs placings cells n t piece slots

-- at the point z of the piece, in cycle c, it reads what the cell q had d cycles before
pub record IsReadingAt (s : FlatSystem) (placings : List Placing) (cells : List Cell) (n : ℕ) (t : Tap) (piece : Piece) (z : Point) (c q d : ℕ) : Type 0 where
  pub within : IsTrue (has piece.domain z)
  pub producer : ℕ
  pub read : Point
  pub reads : IsTapRead s n t.place.tree t.way piece z producer read
  pub earlier : ℕ
  pub later : earlier + d ≡ c
  pub computed : Computes s placings cells q earlier producer read

-- at one of these computations
pub record IsReadingOf (s : FlatSystem) (placings : List Placing) (cells : List Cell) (n : ℕ) (t : Tap) (piece : Piece) (slots : List Slot) (c q d : ℕ) : Type 0 where
  pub point : Point
  pub is_slot : Contains slots (record { cycle = c; point = point })
  pub is : IsReadingAt s placings cells n t piece point c q d

-- all readings for which R holds, by cycle
pub record AreReadings (R : ℕ → ℕ → ℕ → Type 0) (readings : List TapReading) : Type 0 where
  pub each : All (λ r. R r.cycle r.producer.0 r.delay) readings
  pub all : (c q d : ℕ) → R c q d → Contains readings (tap_reading c q d)
  pub order : AreByCycle readings

-- the cell p of the node n of this variable, with its computations
pub record IsConsumer (s : FlatSystem) (placings : List Placing) (cells : List Cell) (p n : ℕ) (v : Variable) (slots : List Slot) : Type 0 where
  pub cell : Cell
  pub is_cell : slice_get cells p ≡ Some cell
  pub node : cell.node ≡ n
  pub are_slots : AreSlots s placings cells p slots
  pub is_variable : slice_get (nodes s) n ≡ Some v

-- a cell of a scheduled system that reads
pub record IsReader (at : Scheduled) (c : Consumer) : Type 0 where
  pub scheduled : IsScheduled at
  pub is : IsConsumer (system_of at) (placings_of at) (cells_of at) c.number.0 c.node.0 (view_variable c.var.now) c.slots.now

-- the tap sites of its node
abbrev pub taps_of_reader : Scheduled → Consumer → List Tap
taps_of_reader at c = taps (system_of at) (helpers_of at) (node_place (system_of at) c.node.0) (view_variable c.var.now)

-- all readings of a tap site on a cell
abbrev pub AreReadBy : Scheduled → Consumer → Tap → List TapReading → Type 0
AreReadBy at c t readings = (piece : Piece) → slice_get (view_variable c.var.now).pieces t.place.piece ≡ Some piece → AreReadings (IsReadingOf (system_of at) (placings_of at) (cells_of at) c.node.0 t piece c.slots.now) readings

-- of the tap site with the number j
abbrev pub AreReadAt : Scheduled → Consumer → ℕ → List TapReading → Type 0
AreReadAt at c j readings = (t : Tap) → slice_get (taps_of_reader at c) j ≡ Some t → AreReadBy at c t readings

-- of each of the first pieces of a variable the computations that are points of it
pub record AreOwnTo (v : Variable) (slots : List Slot) (n : ℕ) (own : List (List Slot)) : Type 0 where
  pub number : length own ≡ n
  pub within : n ≤ length v.pieces
  pub each : (k : ℕ) (piece : Piece) (some : List Slot) → slice_get v.pieces k ≡ Some piece → slice_get own k ≡ Some some → some ≡ filter (λ t. has piece.domain t.point) slots

abbrev pub AreOwn : Variable → List Slot → List (List Slot) → Type 0
AreOwn v slots own = AreOwnTo v slots (length v.pieces) own
