-- Ports: one for each reference to an input on each cell where it reads, and one for each cell of an output.
use Rattle.std.specs.Prelude.{◌≡◌, ℕ, ◌<◌, Bool, false, List, All, AllPairs, Contains, IsTrue, Option, Some, None, slice_get, filter, length}
use Rattle.std.specs.List.{range_with_len}
use Rattle.av_affine.specs.declared.map.Map.{Map}
use Rattle.av_tree.specs.Points.{Point}
use Rattle.av_flat.specs.Trees.{Piece, Variable, FlatSystem}
use Rattle.av_flat.specs.declared.flat.Kind.TheVariants as kind
use Rattle.av_flat.specs.Points.{has}
use Rattle.av_flat.specs.Signatures.{is_input, is_kind}
use Rattle.av_flat.specs.declared.timed.Helper.{Helper}
use Rattle.av_space.specs.Coordinates.{Placing}
use Rattle.av_space.specs.declared.cells.Cell.{Cell}
use Rattle.av_space.specs.declared.cells.InPort.{InPort}
use Rattle.av_flat.specs.Broadcasts.{references}
use Rattle.av_space.specs.Taps.{helper_at, IsReadAt, node_of}
use Rattle.av_flat.specs.Nodes.{nodes, node_place}
use Rattle.av_space.specs.Occupancy.{Computes}

-- on the port's cell the reference reads an input in cycle c, at the point z; with a helper it reads at entry points alone
pub record IsFed (s : FlatSystem) (hs : List Helper) (times : List Placing) (cells : List Cell) (port : InPort) (c : ℕ) (z : Point) (input : Variable) (m : Map) : Type 0 where
  pub node : ℕ
  pub computes : Computes s times cells port.cell c node z
  pub variable : Variable
  pub is_variable : slice_get (nodes s) node ≡ Some variable
  pub piece : Piece
  pub is_piece : slice_get variable.pieces port.piece ≡ Some piece
  pub within : IsTrue (has piece.domain z)
  pub place : ℕ
  pub is_reference : slice_get (references piece.tree) port.site ≡ Some (record { place = place; map = m })
  pub is_variable_read : slice_get s.variables place ≡ Some input
  pub input_kind : IsTrue (is_input input.kind)
  pub entered : IsReadAt (helper_at hs (node_place s node) port.piece port.site) piece z

abbrev pub IsPort : FlatSystem → List Helper → List Placing → List Cell → InPort → Type 0
IsPort s hs times cells port = (c : ℕ) × (z : Point) × (input : Variable) × (m : Map) × IsFed s hs times cells port c z input m

-- by node, piece, reference and cell
pub data IsPortBefore (cells : List Cell) (a b : InPort) : Type 0 where
  by_node : (m n : ℕ) → node_of cells a.cell ≡ Some m → node_of cells b.cell ≡ Some n → m < n → IsPortBefore cells a b
  by_piece : node_of cells a.cell ≡ node_of cells b.cell → a.piece < b.piece → IsPortBefore cells a b
  by_site : node_of cells a.cell ≡ node_of cells b.cell → a.piece ≡ b.piece → a.site < b.site → IsPortBefore cells a b
  by_cell : node_of cells a.cell ≡ node_of cells b.cell → a.piece ≡ b.piece → a.site ≡ b.site → a.cell < b.cell → IsPortBefore cells a b

pub record ArePorts (s : FlatSystem) (hs : List Helper) (times : List Placing) (cells : List Cell) (ports : List InPort) : Type 0 where
  pub each : All (IsPort s hs times cells) ports
  pub all : (port : InPort) → IsPort s hs times cells port → Contains ports port
  pub order : AllPairs (IsPortBefore cells) ports

-- ---- output ports

abbrev pub is_output_variable : Option Variable → Bool
is_output_variable None = false
is_output_variable (Some v) = is_kind v.kind kind.Output

abbrev pub is_output_cell : FlatSystem → List Cell → ℕ → Bool
is_output_cell s cells p = output_of (slice_get cells p)
  where
    output_of : Option Cell → Bool
    output_of None = false
    output_of (Some cell) = is_output_variable (slice_get (nodes s) cell.node)

-- the numbers of the cells of outputs, in order
abbrev pub output_cells : FlatSystem → List Cell → List ℕ
output_cells s cells = filter (is_output_cell s cells) (range_with_len 0 (length cells))
