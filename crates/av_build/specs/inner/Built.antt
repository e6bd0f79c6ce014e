-- When a program is one for the array of a timed system (own form).
use Rattle.std.specs.Prelude.{◌≡◌, ◌↔◌, ℕ, length, List, Some, map, slice_get}
use Rattle.av_base.specs.declared.width.Width.{Width}
use Rattle.av_flat.specs.declared.timed.Timed.{Timed}
use Rattle.av_flat.specs.Trees.{Piece, Variable, view_system}
use Rattle.av_flat.specs.Nodes.{nodes}
use Rattle.av_flat.specs.Broadcasts.{Reference, references}
use Rattle.av_tree.specs.Points.{Point}
use Rattle.av_space.specs.declared.cells.Cells.{Cells}
use Rattle.av_space.specs.declared.cells.Cell.{Cell}
use Rattle.av_space.specs.declared.cells.InPort.{InPort}
use Rattle.av_space.specs.Coordinates.{Placing}
use Rattle.av_space.specs.Quantities.{IsUse}
use Rattle.av_space.specs.Whole.{IsWhole}
use Rattle.av_kinds.specs.declared.counter.Counter.{Counter}
use Rattle.av_kinds.specs.Counters.{count_in}
use Rattle.av_kinds.specs.Programs.{Program, IsProgram}
use Rattle.av_history.specs.Performing.{Array, ComputesOn, Lanes}
use Rattle.av_history.specs.Widths.{width_at}
use Rattle.av_build.specs.inner.Programmed.{IsProgramFor}

abbrev pub array_of : Timed → Cells → List Placing → Array
array_of t a placings = record { system = view_system t.flat; helpers = t.helpers; times = placings; cells = a.cells; links = a.links; ports = a.inputs }

-- a port is as wide as the variable that its reference reads
abbrev pub IsPortWidth : Array → InPort → Width → Type 0
IsPortWidth a port w = (c n : ℕ) (z : Point) (v : Variable) (piece : Piece) (r : Reference) → ComputesOn a port.cell c n z → slice_get (nodes a.system) n ≡ Some v → slice_get v.pieces port.piece ≡ Some piece
    → slice_get (references piece.tree) port.site ≡ Some r → w.bits ≡ width_at a.system r.place

pub record HasPorts (a : Array) (inputs : List Width) : Type 0 where
  pub one_each : length inputs ≡ length a.ports
  pub each : (k : ℕ) (port : InPort) (w : Width) → slice_get a.ports k ≡ Some port → slice_get inputs k ≡ Some w → IsPortWidth a port w

-- cells with the same pieces of one node, and no others, are of one kind
abbrev pub AreSorted : Array → List ℕ → Type 0
AreSorted a kinds = (p q j k : ℕ) (x y : Cell) → slice_get a.cells p ≡ Some x → slice_get a.cells q ≡ Some y → slice_get kinds p ≡ Some j → slice_get kinds q ≡ Some k
    → (j ≡ k) ↔ ((x.node ≡ y.node) × ((n : ℕ) (piece : Piece) → IsUse a.system a.times a.cells (record { cell = p; piece = n }) piece ↔ IsUse a.system a.times a.cells (record { cell = q; piece = n }) piece))

pub record IsProgrammed (t : Timed) (a : Cells) (counter : Counter) (program : Program) : Type 0 where
  pub whole : IsWhole t a
  pub lanes : Lanes
  pub is_program_for : IsProgramFor (array_of t a whole.list.placings) (count_in counter) lanes program
  pub is_program : IsProgram program
  pub ports : HasPorts (array_of t a whole.list.placings) program.inputs
  pub outputs_are : program.outputs ≡ map lanes.of_value a.outputs
  pub sorted : AreSorted (array_of t a whole.list.placings) program.kinds
