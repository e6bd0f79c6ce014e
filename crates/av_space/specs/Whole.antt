-- Whole listings: each computed point is shown once, and no port is asked for two words in one cycle; and designs that carry such
-- a listing on the ports of the array (own form).
use Rattle.std.specs.Prelude.{◌≡◌, ◌≢◌, ℕ, ◌<◌, pos, ◌⊎◌, List, length, map, All, AllPairs, IsTrue, Some, slice_get, codes}
use Rattle.std.specs.List.{range_with_len}
use Rattle.av_affine.specs.declared.map.Map.{Map}
use Rattle.av_tree.specs.Trees.{Text}
use Rattle.av_tree.specs.Points.{Point}
use Rattle.av_flat.specs.declared.timed.Helper.{Helper}
use Rattle.av_flat.specs.declared.timed.Time.{Time}
use Rattle.av_flat.specs.declared.timed.Timed.{Timed}
use Rattle.av_flat.specs.declared.flat.Kind.{Kind}
use Rattle.av_flat.specs.declared.flat.Kind.TheVariants as kind
use Rattle.av_flat.specs.Trees.{Variable, FlatSystem, view_system}
use Rattle.av_flat.specs.Points.{has}
use Rattle.av_flat.specs.Signatures.{signatures, is_shown, is_input, is_kind, is_declared}
use Rattle.av_flat.specs.Nodes.{nodes}
use Rattle.av_flat.specs.Schedules.{cycle}
use Rattle.av_net.specs.declared.netlist.Port.{Port}
use Rattle.av_net.specs.declared.design.Entry.{Entry}
use Rattle.av_net.specs.declared.design.Design.{Design}
use Rattle.av_net.specs.Presented.{AreApart}
use Rattle.av_space.specs.declared.cells.Cell.{Cell}
use Rattle.av_space.specs.declared.cells.Cells.{Cells}
use Rattle.av_space.specs.declared.cells.InPort.{InPort}
use Rattle.av_space.specs.Coordinates.{Placing}
use Rattle.av_space.specs.Occupancy.{Computes}
use Rattle.av_space.specs.Ports.{IsFed}
use Rattle.av_space.specs.Listings.{input_name, output_name, value_name}
use Rattle.av_space.specs.Arrays.{IsArrayOf}

-- ---- lines

-- an output's wire is the output port of its cell, a local's the value wire
abbrev pub IsOwnWire : List ℕ → Kind → ℕ → List ℕ → Type 0
IsOwnWire outputs k cell wire =
    (IsTrue (is_kind k kind.Output) × ((port : ℕ) × (slice_get outputs port ≡ Some cell) × (wire ≡ output_name port)))
    ⊎ (IsTrue (is_kind k kind.Local) × (wire ≡ value_name cell))

-- one line, and no second, lists this point of the variable
pub record IsListedOnce (lines : List Entry) (variable : Text) (z : Point) : Type 0 where
  pub number : ℕ
  pub line : Entry
  pub is_line : slice_get lines number ≡ Some line
  pub variable_is : line.variable ≡ variable
  pub point_is : line.point ≡ z
  pub only : (k : ℕ) (other : Entry) → slice_get lines k ≡ Some other → other.variable ≡ variable → other.point ≡ z → k ≡ number

-- so the point z of the node n is shown, at the cell that computes it
pub record IsShownOnce (s : FlatSystem) (placings : List Placing) (a : Cells) (n : ℕ) (v : Variable) (z : Point) : Type 0 where
  pub listed : IsListedOnce a.listing.ats v.name z
  pub cell : ℕ
  pub computes : Computes s placings a.cells cell listed.line.cycle n z
  pub wire_is : IsOwnWire a.outputs v.kind cell listed.line.wire

-- the line's cycle is the one that the schedule gives its point
pub record IsOnTime (s : FlatSystem) (times : List Time) (line : Entry) : Type 0 where
  pub node : ℕ
  pub variable : Variable
  pub is_variable : slice_get (nodes s) node ≡ Some variable
  pub named : line.variable ≡ variable.name
  pub time : Time
  pub is_time : slice_get times node ≡ Some time
  pub on_time : pos line.cycle ≡ cycle time line.point

-- the line presents a declared input point at an input port
abbrev pub IsPresented : FlatSystem → Cells → Entry → Type 0
IsPresented s a line = IsTrue (is_declared is_input (signatures s) line.variable line.point) × ((k : ℕ) × (k < length a.inputs) × (line.wire ≡ input_name k))

-- ---- the whole

-- the array of a system, with a whole listing
pub record IsWhole (t : Timed) (a : Cells) : Type 0 where
  pub list : IsArrayOf t a
  pub apart : AreApart a.listing.ins
  pub each : (n : ℕ) (v : Variable) (z : Point) → slice_get (nodes (view_system t.flat)) n ≡ Some v → IsTrue (is_shown v.kind) → IsTrue (has v.domain z)
      → IsShownOnce (view_system t.flat) list.placings a n v z
  pub one_word : AllPairs (λ one other. one.variable ≡ other.variable → one.wire ≡ other.wire → one.cycle ≢ other.cycle) a.listing.ats
  pub on_time : All (IsOnTime (view_system t.flat) t.times) a.listing.ats
  pub presented : All (IsPresented (view_system t.flat) a) a.listing.ins

-- ---- designs

-- an input port is as wide as the words of the input that is read there
abbrev pub HasInputWidth : FlatSystem → List Helper → List Placing → Cells → ℕ → ℕ → Type 0
HasInputWidth s hs placings a k width =
    (port : InPort) (c : ℕ) (z : Point) (input : Variable) (m : Map) → slice_get a.inputs k ≡ Some port → IsFed s hs placings a.cells port c z input m → width ≡ input.width

-- and an output port as those of the variable of its cell
abbrev pub HasOutputWidth : FlatSystem → Cells → ℕ → ℕ → Type 0
HasOutputWidth s a k width = (p : ℕ) (cell : Cell) (v : Variable) → slice_get a.outputs k ≡ Some p → slice_get a.cells p ≡ Some cell → slice_get (nodes s) cell.node ≡ Some v → width ≡ v.width

-- ports with these names, by their numbers, each of its number's width
pub record ArePortsOf (name : ℕ → List ℕ) (number : ℕ) (HasWidth : ℕ → ℕ → Type 0) (ports : List Port) : Type 0 where
  pub names : map (λ p. p.name) ports ≡ map name (range_with_len 0 number)
  pub widths : All (λ p. (k : ℕ) → p.name ≡ name k → HasWidth k p.width.bits) ports

-- the design carries the listing on the ports of the array
pub record HasWholeListing (t : Timed) (a : Cells) (d : Design) : Type 0 where
  pub whole : IsWhole t a
  pub listing : d.listing ≡ a.listing
  pub name : d.module.name ≡ codes "array"
  pub inputs : ArePortsOf input_name (length a.inputs) (HasInputWidth (view_system t.flat) t.helpers whole.list.placings a) d.module.inputs
  pub outputs : ArePortsOf output_name (length a.outputs) (HasOutputWidth (view_system t.flat) a) d.module.outputs
