-- The listing: where each read of an input point is presented, and where each computed point is shown.
use Rattle.std.specs.Prelude.{◌≡◌, ℕ, ◌<◌, ◌⊎◌, List, ◌++◌, map, All, AllPairs, Contains, IsTrue, Some, slice_get, codes, decimal}
use Rattle.av_affine.specs.declared.map.Map.{Map}
use Rattle.av_affine.specs.Maps.{image}
use Rattle.av_tree.specs.Points.{Point}
use Rattle.av_flat.specs.Trees.{Variable, FlatSystem}
use Rattle.av_flat.specs.Signatures.{is_shown}
use Rattle.av_net.specs.declared.design.Entry.{Entry}
use Rattle.av_flat.specs.declared.timed.Helper.{Helper}
use Rattle.av_space.specs.Coordinates.{Placing}
use Rattle.av_space.specs.declared.cells.Cell.{Cell}
use Rattle.av_space.specs.declared.cells.InPort.{InPort}
use Rattle.av_flat.specs.Order.{IsBefore}
use Rattle.av_flat.specs.Nodes.{nodes}
use Rattle.av_space.specs.Occupancy.{Computes}
use Rattle.av_space.specs.Ports.{IsFed}

abbrev pub input_name : ℕ → List ℕ
input_name k = codes "i" ++ decimal k

abbrev pub output_name : ℕ → List ℕ
output_name k = codes "o" ++ decimal k

abbrev pub value_name : ℕ → List ℕ
value_name p = codes "c" ++ decimal p

-- ---- input lines

-- the line of a read, at the port with this number
pub record InLine : Type 0 where
  pub port : ℕ
  pub entry : Entry

pub record IsInLine (s : FlatSystem) (hs : List Helper) (times : List Placing) (cells : List Cell) (ports : List InPort) (l : InLine) : Type 0 where
  pub port : InPort
  pub is_port : slice_get ports l.port ≡ Some port
  pub input : Variable
  pub map : Map
  pub point : Point
  pub fed : IsFed s hs times cells port l.entry.cycle point input map
  pub variable_is : l.entry.variable ≡ input.name
  pub point_is : l.entry.point ≡ image map.rows point
  pub wire_is : l.entry.wire ≡ input_name l.port

-- by port and cycle
pub record AreInLines (s : FlatSystem) (hs : List Helper) (times : List Placing) (cells : List Cell) (ports : List InPort) (ins : List Entry) : Type 0 where
  pub lines : List InLine
  pub entries : ins ≡ map (λ l. l.entry) lines
  pub each : All (IsInLine s hs times cells ports) lines
  pub all : (l : InLine) → IsInLine s hs times cells ports l → Contains lines l
  pub order : AllPairs (λ a b. (a.port < b.port) ⊎ ((a.port ≡ b.port) × (a.entry.cycle < b.entry.cycle))) lines

-- ---- lines of computed points

-- the output port of a cell, or else its value wire
pub data IsWireOf (outputs : List ℕ) (p : ℕ) : List ℕ → Type 0 where
  output : (k : ℕ) → slice_get outputs k ≡ Some p → IsWireOf outputs p (output_name k)
  value : (Contains outputs p → ⊥) → IsWireOf outputs p (value_name p)

pub record AtLine : Type 0 where
  pub node : ℕ
  pub entry : Entry

pub record IsAtLine (s : FlatSystem) (times : List Placing) (cells : List Cell) (outputs : List ℕ) (l : AtLine) : Type 0 where
  pub cell : ℕ
  pub computes : Computes s times cells cell l.entry.cycle l.node l.entry.point
  pub variable : Variable
  pub is_variable : slice_get (nodes s) l.node ≡ Some variable
  pub shown : IsTrue (is_shown variable.kind)
  pub variable_is : l.entry.variable ≡ variable.name
  pub wire_is : IsWireOf outputs cell l.entry.wire

-- by node and point
pub record AreAtLines (s : FlatSystem) (times : List Placing) (cells : List Cell) (outputs : List ℕ) (ats : List Entry) : Type 0 where
  pub lines : List AtLine
  pub entries : ats ≡ map (λ l. l.entry) lines
  pub each : All (IsAtLine s times cells outputs) lines
  pub all : (l : AtLine) → IsAtLine s times cells outputs l → Contains lines l
  pub order : AllPairs (λ a b. (a.node < b.node) ⊎ ((a.node ≡ b.node) × IsBefore a.entry.point b.entry.point)) lines
