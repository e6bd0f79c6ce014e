-- Nodes with their pieces, as ports are looked for on them.
use Rattle.std.proofs.Common.{◌≡◌, ℕ, ◌+◌, ◌<◌, Some, List, length, sym, ap, subst, ◌∙◌, arith}
use Rattle.std.specs.Prelude.{slice_get}
use Rattle.std.proofs.lemmas.Option.{slice_get_within}
use Rattle.av_flat.specs.declared.timed.Helper.{Helper}
use Rattle.av_flat.specs.Trees.{Piece, Variable, FlatSystem, view_piece, view_system}
use Rattle.av_flat.specs.Broadcasts.{references}
use Rattle.av_flat.specs.Chained.{IsChainedPiece}
use Rattle.av_flat.specs.Nodes.{nodes}
use Rattle.av_flat.specs.Signatures.{signatures}
use Rattle.av_flat.specs.WellFormed.{Fits}
use Rattle.av_space.specs.declared.cells.Cell.{Cell}
use Rattle.av_space.specs.declared.cells.InPort.{InPort}
use Rattle.av_space.specs.declared.ports.NodePiece.{NodePiece}
use Rattle.av_space.specs.declared.ports.Ports.{Ports as Found}
use Rattle.av_space.specs.Coordinates.{Placing}
use Rattle.av_space.specs.Ports.{IsPort}
use Rattle.av_space.specs.Taps.{node_of}
use Rattle.av_space.specs.inner.NodePieces.{IsNodePiece, IsPart, ArePortsOf, ArePortsAt}
use Rattle.av_space.proofs.Fed.{node_of_port, next_piece}
use Rattle.av_space.proofs.OnCells.{chained_node}
use Rattle.av_space.proofs.PieceParts.{whole_part}
use Rattle.av_base.proofs.Lists.{all_at, some_is}

-- ---- ports of a node

pub piece_below : (s : FlatSystem) (hs : List Helper) (placings : List Placing) (cells : List Cell) (n : ℕ) (v : Variable) → slice_get (nodes s) n ≡ Some v
    → (port : InPort) → IsPort s hs placings cells port → node_of cells port.cell ≡ Some n → port.piece < length v.pieces
piece_below s hs placings cells n v is port h e =
    let f = h.4 in
    let same : f.variable ≡ v = some_is f.variable v (sym f.is_variable ∙ ap (λ (i : ℕ). slice_get (nodes s) i) (node_of_port s hs placings cells port h n e) ∙ is) in
    slice_get_within v.pieces port.piece f.piece (ap (λ (w : Variable). slice_get w.pieces port.piece) (sym same) ∙ f.is_piece)

pub site_below : (at : NodePiece) (is : IsNodePiece at) (port : InPort) → IsPort (view_system at.scheduled.now.timed.flat) at.scheduled.now.timed.helpers at.scheduled.now.layout.placements at.scheduled.now.layout.cells port
    → node_of at.scheduled.now.layout.cells port.cell ≡ Some at.node.0 → port.piece ≡ at.number → port.site < length (references (view_piece at.piece.now).tree)
site_below at is port h e number =
    let s = view_system at.scheduled.now.timed.flat in
    let f = h.4 in
    let n = node_of_port s at.scheduled.now.timed.helpers at.scheduled.now.layout.placements at.scheduled.now.layout.cells port h at.node.0 e in
    let same : f.variable ≡ is.variable = some_is f.variable is.variable (sym f.is_variable ∙ ap (λ (i : ℕ). slice_get (nodes s) i) n ∙ is.is_variable) in
    let piece : f.piece ≡ view_piece at.piece.now = some_is f.piece (view_piece at.piece.now)
    (sym f.is_piece ∙ ap (λ (i : ℕ). slice_get f.variable.pieces i) number ∙ ap (λ (w : Variable). slice_get w.pieces at.number) same ∙ is.is_piece) in
    slice_get_within (references (view_piece at.piece.now).tree) port.site _ (ap (λ (q : Piece). slice_get (references q.tree) port.site) (sym piece) ∙ f.is_reference)

-- ---- pieces of a node

pub piece_part : (at : NodePiece) (is : IsNodePiece at) → IsPart at 0 (view_piece at.piece.now).tree
piece_part at is =
    let s = view_system at.scheduled.now.timed.flat in
    let piece = view_piece at.piece.now in
    let chained = chained_node at.scheduled.now.timed at.node.0 is.variable is.scheduled.legal is.is_variable in
    let own = all_at (IsChainedPiece (signatures s) is.variable) is.variable.pieces at.number piece chained.pieces is.is_piece in
    whole_part at (subst (λ (n : ℕ). Fits (signatures s) n piece.tree) (sym own.dimension) own.tree.fits) own.tree.rows

-- from one piece to the next
pub piece_passed : (at : NodePiece) (is : IsNodePiece at) (next : ℕ) (ports : Found) → next ≡ 0 + length (references (view_piece at.piece.now).tree) → ArePortsAt at next at.first ports
    → ArePortsOf at.scheduled.now at.node.0 (at.number + 1) at.first ports
piece_passed at is next ports e h =
    next_piece (view_system at.scheduled.now.timed.flat) at.scheduled.now.timed.helpers at.scheduled.now.layout.placements at.scheduled.now.layout.cells at.node.0 at.number next at.first ports is.first
    (λ port p n k. let l = site_below at is port p n k in omega (arith, l, e)) h
