use Rattle.std.proofs.Common.{List, [], map, ap, sym, subst, All}
use Rattle.std.proofs.lemmas.Result.{err_from_is_err_and}
use Rattle.av_base.specs.declared.width.Width.{Width}
use Rattle.av_flat.specs.declared.flat.Piece.{Piece as PieceMade}
use Rattle.av_flat.specs.declared.flat.Var.{Var}
use Rattle.av_flat.specs.Trees.{Piece, view_piece, view_variable, view_system}
use Rattle.av_flat.specs.Signatures.{signatures}
use Rattle.av_normal.specs.inner.Numbered.{signatures_of}
use Rattle.av_normal.specs.inner.UnderMaps.{StandsUnder}
use Rattle.av_normal.specs.inner.Making.{held_parts, IsParted}
use Rattle.av_normal.proofs.Trying.{pieces_are, all_narrow, wide_maps, wide_pieces, wide_bodies}
use Rattle.av_normal.proofs.Making.{holders}
use Rattle.av_normal.proofs.Parted.{equation_stands, equation_parted, parts_fillable}
use Rattle.av_normal.proofs.all_pieces.with_all_pieces.Goals as goal

pub equation_fits-requires : goal.equation_fits-requires
equation_fits-requires c =
    let stands = equation_stands (view_system c.args.flat.now) (view_variable c.args.var.now) c.requires.variable in
    subst (λ (es : List PieceMade). All (λ (e : Piece). StandsUnder [] e.tree) (map view_piece es)) (sym c.as_slice-equation.ensures) stands

pub returns-in_err-equation_fits-clause-wide : goal.returns-in_err-equation_fits-clause-wide
returns-in_err-equation_fits-clause-wide c =
    let f = c.in_err-equation_fits.field-0.0 in
    let w = rw c.as_slice-equation.ensures at c.in_err-equation_fits.ensures.wide in
    let p = err_from_is_err_and c.from_residual-in_err-equation_fits.result c.from_residual-in_err-equation_fits.ensures.1 in
    rw (p.1, p.2) (wide_maps (signatures (view_system c.args.flat.now)) (view_variable c.args.var.now) f c.in_ok-domain_fits.ensures.narrow w)

pub pieces_made-requires-clause-parted : goal.pieces_made-requires-clause-parted
pieces_made-requires-clause-parted c =
    let dim = c.args.var.now.domain.dim in
    let maps = rw c.as_slice-equation.ensures at c.in_ok-equation_fits.ensures.narrow in
    let parted = equation_parted (view_system c.args.flat.now) (view_variable c.args.var.now) c.requires.variable c.requires.system c.requires.few maps in
    subst (λ (es : List PieceMade). All (IsParted (signatures_of c.as_slice.result.now) dim) (map view_piece es)) (sym c.as_slice-equation.ensures)
    (subst (λ (vars : List Var). All (IsParted (signatures_of vars) dim) (map view_piece c.args.var.now.pieces)) (sym c.as_slice.ensures) parted)

pub returns-in_err-made-clause-wide : goal.returns-in_err-made-clause-wide
returns-in_err-made-clause-wide c =
    let f = c.in_err-made.field-0.0 in
    let maps = rw c.as_slice-equation.ensures at c.in_ok-equation_fits.ensures.narrow in
    let w = rw (c.as_slice.ensures, c.as_slice-equation.ensures) at c.in_err-made.ensures.wide in
    let p = err_from_is_err_and c.from_residual-in_err-made.result c.from_residual-in_err-made.ensures.1 in
    rw (p.1, p.2) (wide_pieces (signatures (view_system c.args.flat.now)) (view_variable c.args.var.now) f c.in_ok-domain_fits.ensures.narrow maps w)

pub trees_filled-requires : goal.trees_filled-requires
trees_filled-requires c =
    let v = view_variable c.args.var.now in
    let own = held_parts (signatures (view_system c.args.flat.now)) v.domain.rows v.pieces in
    let maps = rw c.as_slice-equation.ensures at c.in_ok-equation_fits.ensures.narrow in
    let made = rw (c.as_slice.ensures, c.as_slice-equation.ensures) at c.in_ok-made.ensures.made in
    let holds = holders v.domain.dim own (map view_piece c.in_ok-made.made) made (parts_fillable (view_system c.args.flat.now) v c.requires.variable maps) in
    holds

pub returns-in_err-pieces-clause-wide : goal.returns-in_err-pieces-clause-wide
returns-in_err-pieces-clause-wide c =
    let v = view_variable c.args.var.now in
    let vs = signatures (view_system c.args.flat.now) in
    let own = held_parts vs v.domain.rows v.pieces in
    let f = c.in_err-pieces.field-0.0 in
    let maps = rw c.as_slice-equation.ensures at c.in_ok-equation_fits.ensures.narrow in
    let made = rw (c.as_slice.ensures, c.as_slice-equation.ensures) at c.in_ok-made.ensures.made in
    let pieces = rw (c.as_slice.ensures, c.as_slice-equation.ensures) at c.in_ok-made.ensures.narrow in
    let w = c.in_err-pieces.ensures.wide in
    let p = err_from_is_err_and c.from_residual-in_err-pieces.result c.from_residual-in_err-pieces.ensures.1 in
    rw (p.1, p.2) (wide_bodies vs v f c.in_ok-domain_fits.ensures.narrow maps pieces (w v.domain.dim own made))

pub returns-clause-pieces : goal.returns-clause-pieces
returns-clause-pieces c =
    let v = view_variable c.args.var.now in
    let vs = signatures (view_system c.args.flat.now) in
    let own = held_parts vs v.domain.rows v.pieces in
    let made = rw (c.as_slice.ensures, c.as_slice-equation.ensures) at c.in_ok-made.ensures.made in
    let all_pieces = c.in_ok-pieces.ensures.pieces in
    let to = c.in_ok-with_pieces.ensures in
    record {
      name = to.name;
      kind = to.kind;
      width = ap (λ (w : Width). w.bits) to.width;
      domain = to.domain;
      pieces = rw (pieces_are vs v, to.pieces) (all_pieces v.domain.dim own made);
    }

pub returns-clause-narrow : goal.returns-clause-narrow
returns-clause-narrow c =
    let v = view_variable c.args.var.now in
    let vs = signatures (view_system c.args.flat.now) in
    let own = held_parts vs v.domain.rows v.pieces in
    let maps = rw c.as_slice-equation.ensures at c.in_ok-equation_fits.ensures.narrow in
    let made = rw (c.as_slice.ensures, c.as_slice-equation.ensures) at c.in_ok-made.ensures.made in
    let pieces = rw (c.as_slice.ensures, c.as_slice-equation.ensures) at c.in_ok-made.ensures.narrow in
    let bodies = c.in_ok-pieces.ensures.narrow in
    all_narrow vs v c.in_ok-domain_fits.ensures.narrow maps pieces (bodies v.domain.dim own made)
