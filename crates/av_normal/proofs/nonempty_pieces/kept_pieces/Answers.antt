use Rattle.std.proofs.Common.{map, List, Option, sym, subst}
use Rattle.av_poly.specs.declared.poly.Bounds.{Bounds}
use Rattle.av_flat.specs.declared.flat.Piece.{Piece as PieceMade}
use Rattle.av_flat.specs.Trees.{view_piece}
use Rattle.av_normal.specs.inner.NonemptyPieces.{AreHeld, AreNonemptyPieces}
use Rattle.av_normal.proofs.NonemptyPieces.{all_left_out}
use Rattle.av_normal.proofs.nonempty_pieces.kept_pieces.Goals as goal

pub returns-in-None : goal.returns-in-None
returns-in-None c =
    let pieces = map view_piece c.args.pieces in
    let none = subst (λ (e : Option Bounds). AreHeld pieces e) c.in-None.is c.requires in
    subst (λ (ps : List PieceMade). AreNonemptyPieces pieces (map view_piece ps)) (sym c.new.ensures) (all_left_out pieces none)
