-- Pieces of nodes with the cells of the node, references to inputs in them, and the ports that are found up to these.
use Rattle.std.specs.Prelude.{◌≡◌, ℕ, ◌+◌, ◌<◌, ◌≤◌, IsTrue, List, Some, slice_get, length, filter}
use Rattle.av_flat.specs.Trees.{Tree, Variable, view_piece, view_variable}
use Rattle.av_flat.specs.Broadcasts.{references}
use Rattle.av_flat.specs.Nodes.{nodes, node_place}
use Rattle.av_flat.specs.Points.{has}
use Rattle.av_flat.specs.Signatures.{signatures, is_input}
use Rattle.av_flat.specs.WellFormed.{EachPart, Fits, HasSmallRows}
use Rattle.av_poly.specs.Points.{Set}
use Rattle.av_space.specs.declared.cells.Cell.{Cell}
use Rattle.av_space.specs.declared.input_site.InputSite.{InputSite}
use Rattle.av_space.specs.declared.layout.Slot.{Slot}
use Rattle.av_space.specs.declared.ports.NodeCells.{NodeCells}
use Rattle.av_space.specs.declared.ports.NodePiece.{NodePiece}
use Rattle.av_space.specs.declared.ports.Ports.{Ports}
use Rattle.av_space.specs.Taps.{helper_at}
use Rattle.av_space.specs.inner.Apart.{AreOfNode}
use Rattle.av_space.specs.inner.Scheduled.{Scheduled, IsScheduled, system_of, helpers_of, placings_of, cells_of}
use Rattle.av_space.specs.inner.Feeding.{direction_of, IsReadable, IsFirstOf, StandAt, ArePortsTo}

abbrev pub ArePortsOf : Scheduled → ℕ → ℕ → ℕ → Ports → Type 0
ArePortsOf of n k p ports = ArePortsTo (system_of of) (helpers_of of) (placings_of of) (cells_of of) n k 0 p ports

abbrev pub ArePortsAt : NodePiece → ℕ → ℕ → Ports → Type 0
ArePortsAt at j p ports = ArePortsTo (system_of at.scheduled.now) (helpers_of at.scheduled.now) (placings_of at.scheduled.now) (cells_of at.scheduled.now) at.node.0 at.number j p ports

-- the cells of a node are those from the first on and before the last
pub record AreCellsOf (cells : List Cell) (of : NodeCells) : Type 0 where
  pub first : IsFirstOf cells of.node.0 of.first
  pub last : IsFirstOf cells (of.node.0 + 1) of.last
  pub ordered : of.first ≤ of.last
  pub within : of.last ≤ length cells

-- the computations on these cells are of the node of a piece with this set
abbrev pub AreOfPiece : List (List Slot) → Set → ℕ → ℕ → Type 0
AreOfPiece rows set first last = (p : ℕ) (slots : List Slot) → first ≤ p → p < last → slice_get rows p ≡ Some slots → AreOfNode set slots

-- of each of these cells the computations that are points of the set
pub record AreOwnSlots (rows : List (List Slot)) (set : Set) (first last : ℕ) (own : List (List Slot)) : Type 0 where
  pub number : first + length own ≡ last
  pub each : (k : ℕ) (slots some : List Slot) → slice_get rows (first + k) ≡ Some slots → slice_get own k ≡ Some some → some ≡ filter (λ t. has set t.point) slots

pub record IsNodePiece (at : NodePiece) : Type 0 where
  pub scheduled : IsScheduled at.scheduled.now
  pub variable : Variable
  pub is_variable : slice_get (nodes (system_of at.scheduled.now)) at.node.0 ≡ Some variable
  pub is_piece : slice_get variable.pieces at.number ≡ Some (view_piece at.piece.now)
  pub first : IsFirstOf (cells_of at.scheduled.now) at.node.0 at.first
  pub last : IsFirstOf (cells_of at.scheduled.now) (at.node.0 + 1) at.last
  pub ordered : at.first ≤ at.last
  pub within : at.last ≤ length (cells_of at.scheduled.now)
  pub own : AreOwnSlots at.scheduled.now.layout.slots at.piece.now.domain at.first at.last at.own

-- a part of the piece, whose references have the numbers from j on
pub record IsPart (at : NodePiece) (j : ℕ) (t : Tree) : Type 0 where
  pub stand : StandAt j (references t) (references (view_piece at.piece.now).tree)
  pub fits : Fits (signatures (system_of at.scheduled.now)) at.piece.now.domain.dim t
  pub rows : EachPart HasSmallRows t

-- the reference with this number in the piece
pub record IsInputSite (at : NodePiece) (j : ℕ) (site : InputSite) : Type 0 where
  pub domain : site.domain.now ≡ at.piece.now.domain
  pub direction : site.direction ≡ direction_of (helper_at (helpers_of at.scheduled.now) (node_place (system_of at.scheduled.now) at.node.0) at.number j)
  pub place : ℕ
  pub is_reference : slice_get (references (view_piece at.piece.now).tree) j ≡ Some (record { place = place; map = site.map.now })
  pub is_read : slice_get (system_of at.scheduled.now).variables place ≡ Some (view_variable site.input.now)
  pub kind : IsTrue (is_input site.input.now.kind)
  pub readable : IsReadable site.domain.now site.direction site.map.now
