-- Lines of computed points as far as they are found: node by node and point by point.
use Rattle.std.specs.Prelude.{◌≡◌, ℕ, ◌<◌, ◌⊎◌, List, map, All, AllPairs, Contains, IsTrue, Some, slice_get, length}
use Rattle.av_tree.specs.Points.{Point}
use Rattle.av_tree.specs.Trees.{Text}
use Rattle.av_flat.specs.Nodes.{nodes}
use Rattle.av_flat.specs.Order.{IsBefore}
use Rattle.av_flat.specs.Signatures.{is_shown}
use Rattle.av_flat.specs.Trees.{FlatSystem, view_variable}
use Rattle.av_net.specs.declared.design.Entry.{Entry}
use Rattle.av_space.specs.declared.cells.Cell.{Cell}
use Rattle.av_space.specs.declared.shown.ShownNode.{ShownNode}
use Rattle.av_space.specs.Coordinates.{Placing}
use Rattle.av_space.specs.Listings.{AtLine, IsWireOf, IsAtLine}
use Rattle.av_space.specs.Ports.{output_cells}
use Rattle.av_space.specs.inner.Scheduled.{Scheduled, IsScheduled, system_of, placings_of, cells_of}

-- the wires at which so many cells are shown
pub record AreWires (outputs : List ℕ) (count : ℕ) (wires : List Text) : Type 0 where
  pub number : length wires ≡ count
  pub each : (p : ℕ) (wire : Text) → slice_get wires p ≡ Some wire → IsWireOf outputs p wire

pub record IsShownNode (shown : ShownNode) : Type 0 where
  pub scheduled : IsScheduled shown.scheduled.now
  pub outputs : shown.outputs.now ≡ output_cells (system_of shown.scheduled.now) (cells_of shown.scheduled.now)
  pub wires : AreWires shown.outputs.now (length (cells_of shown.scheduled.now)) shown.wires.now
  pub is_variable : slice_get (nodes (system_of shown.scheduled.now)) shown.node.0 ≡ Some (view_variable shown.var.now)
  pub is_shown : IsTrue (is_shown shown.var.now.kind)

-- the lines of the points of nodes for which this holds
pub record AreLinesOf (s : FlatSystem) (placings : List Placing) (cells : List Cell) (outputs : List ℕ) (P : ℕ → Point → Type 0) (ats : List Entry) : Type 0 where
  pub lines : List AtLine
  pub entries : ats ≡ map (λ l. l.entry) lines
  pub each : All (λ l. P l.node l.entry.point × IsAtLine s placings cells outputs l) lines
  pub all : (l : AtLine) → P l.node l.entry.point → IsAtLine s placings cells outputs l → Contains lines l
  pub order : AllPairs (λ a b. (a.node < b.node) ⊎ ((a.node ≡ b.node) × IsBefore a.entry.point b.entry.point)) lines

-- of the nodes below this one
abbrev pub AreLinesBelow : Scheduled → List ℕ → ℕ → List Entry → Type 0
AreLinesBelow of outputs n ats = AreLinesOf (system_of of) (placings_of of) (cells_of of) outputs (λ m z. m < n) ats

-- of the nodes below this one, and of its points among these
abbrev pub AreLinesTo : Scheduled → List ℕ → ℕ → List Point → List Entry → Type 0
AreLinesTo of outputs n points ats = AreLinesOf (system_of of) (placings_of of) (cells_of of) outputs (λ m z. (m < n) ⊎ ((m ≡ n) × Contains points z)) ats
