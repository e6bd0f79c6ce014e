use Rattle.std.proofs.Common.{◌<◌, ◌+◌, List, [], length, map, drop, rules}
use Rattle.std.proofs.lemmas.Result.{err_from_is_err_and}
use Rattle.av_flat.specs.declared.flat.Piece.{Piece as PieceMade}
use Rattle.av_flat.specs.Trees.{Piece, view, view_piece}
use Rattle.av_flat.specs.Quantities.{of_map, composed_maps}
use Rattle.av_normal.specs.inner.UnderMaps.{StandsUnder}
use Rattle.av_normal.specs.inner.Making.{maps_measured}
use Rattle.av_normal.proofs.Trying.{past, refused, next_stands}
use Rattle.av_normal.proofs.Making.{all_at}
use Rattle.av_normal.proofs.all_pieces.equation_fits.Goals as goal

pub maps_fit-requires : goal.maps_fit-requires
maps_fit-requires c =
    let equation = c.args.equation.now in
    let i = c.loop-piece.piece-index in
    let l : i < length equation = search rules in
    all_at (λ (e : Piece). StandsUnder [] e.tree) view_piece equation i c.piece-item.result l c.piece-item.is c.requires

pub returns-in_err-maps_fit-clause-wide : goal.returns-in_err-maps_fit-clause-wide
returns-in_err-maps_fit-clause-wide c =
    let equation = c.args.equation.now in
    let i = c.loop-piece.piece-index in
    let l : i < length equation = search rules in
    let all = maps_measured (map view_piece equation) in
    let next = next_stands (λ (es : List PieceMade). maps_measured (map view_piece es)) all equation i c.piece-item.result l c.piece-item.is c.loop-piece.invariant in
    let p = err_from_is_err_and c.from_residual.result c.from_residual.ensures.1 in
    rw (p.1, p.2)
    (refused (map of_map (composed_maps [] (view c.piece-item.result.tree))) (maps_measured (map view_piece (drop (i + 1) equation))) all c.in_err-maps_fit.field-0.0 next c.in_err-maps_fit.ensures.first)

pub loop-piece-preserved : goal.loop-piece-preserved
loop-piece-preserved c =
    let equation = c.args.equation.now in
    let i = c.loop-piece.piece-index in
    let l : i < length equation = search rules in
    let all = maps_measured (map view_piece equation) in
    let next = next_stands (λ (es : List PieceMade). maps_measured (map view_piece es)) all equation i c.piece-item.result l c.piece-item.is c.loop-piece.invariant in
    past (map of_map (composed_maps [] (view c.piece-item.result.tree))) (maps_measured (map view_piece (drop (i + 1) equation))) all next c.in_ok-maps_fit.ensures.narrow
