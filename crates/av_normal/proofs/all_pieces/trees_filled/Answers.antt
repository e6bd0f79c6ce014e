use Rattle.std.proofs.Common.{◌≡◌, ◌∷◌, [], List, length, map, sym, ap, subst, ◌∙◌, arith}
use Rattle.std.specs.List.{AllByRecursion}
use Rattle.std.specs.Vec.Iter.{into_iter_items, into_iter_len}
use Rattle.std.proofs.lemmas.List.{map-append, nil_from_length}
use Rattle.std.proofs.lemmas.Result.{err_from_is_err_and}
use Rattle.av_flat.specs.declared.flat.Piece.{Piece as PieceMade}
use Rattle.av_flat.specs.Trees.{Piece, view_piece}
use Rattle.av_flat.specs.Pieces.{Part, filled}
use Rattle.av_flat.specs.Quantities.{of_set, body_sets}
use Rattle.av_normal.specs.Searches.{AreNarrow}
use Rattle.av_normal.specs.inner.Making.{bodies_measured, filled_part, IsHolder, IsFilledTo, Continues}
use Rattle.av_normal.specs.inner.AllPieces.{ArePiecesOfParts}
use Rattle.av_normal.proofs.Trying.{past, refused}
use Rattle.av_normal.proofs.Making.{next_filled, none_filled, one_made, all_made}
use Rattle.av_normal.proofs.all_pieces.trees_filled.Goals as goal

pub returns-in_err-filled_piece-clause-wide : goal.returns-in_err-filled_piece-clause-wide
returns-in_err-filled_piece-clause-wide c =
    let item = c.in-Some.piece in
    let later = into_iter_items c.next.new.self in
    let done = map view_piece c.loop-piece.all_pieces in
    let next : into_iter_items c.loop-piece.piece-iterator ≡ item ∷ later = c.in-Some.ensures.steps.0 in
    let f = c.in_err-filled_piece.field-0.0 in
    let p = err_from_is_err_and c.from_residual.result c.from_residual.ensures.1 in
    rw (p.1, p.2) (λ dim ps made.
    let to = subst (λ (qs : List PieceMade). IsFilledTo (ArePiecesOfParts dim) dim ps done (map view_piece qs)) next (c.loop-piece.invariant.filled dim ps made) in
    let first = next_filled (ArePiecesOfParts dim) dim ps done (view_piece item) (map view_piece later) to in
    refused (map of_set (body_sets (filled first.part.rows first.part.tree))) (bodies_measured first.rest) (bodies_measured ps) f first.left (c.in_err-filled_piece.ensures.wide dim first.part first.made_is))

pub loop-piece-preserved : goal.loop-piece-preserved
loop-piece-preserved c =
    let item = c.in-Some.piece in
    let later = into_iter_items c.next.new.self in
    let all_pieces = c.loop-piece.all_pieces in
    let done = map view_piece all_pieces in
    let piece = c.in_ok-filled_piece.field-0 in
    let next : into_iter_items c.loop-piece.piece-iterator ≡ item ∷ later = c.in-Some.ensures.steps.0 in
    let holders = subst (λ (qs : List PieceMade). AllByRecursion IsHolder (map view_piece qs)) next c.loop-piece.invariant.holders in
    let was = c.loop-piece.invariant.left in
    let gone = c.in-Some.ensures.steps.1 in
    let short : length (into_iter_items c.loop-piece.piece-iterator) ≡ length (item ∷ later) = ap length next in
    let left : into_iter_len c.next.new.self ≡ length later = omega (arith, was, gone, short) in
    let longer = ap (λ (qs : List PieceMade). map view_piece qs) c.in_ok-push.ensures.ok ∙ map-append view_piece all_pieces (piece ∷ []) in
    record {
      holders = holders.1;
      filled = λ dim ps made.
          let to = subst (λ (qs : List PieceMade). IsFilledTo (ArePiecesOfParts dim) dim ps done (map view_piece qs)) next (c.loop-piece.invariant.filled dim ps made) in
          let first = next_filled (ArePiecesOfParts dim) dim ps done (view_piece item) (map view_piece later) to in
          let all = map filled_part ps in
          record {
            rest = first.rest;
            are = first.are;
            left = past (map of_set (body_sets (filled first.part.rows first.part.tree))) (bodies_measured first.rest) (bodies_measured ps) first.left (c.in_ok-filled_piece.ensures.narrow dim first.part first.made_is);
            done = subst (λ (qs : List Piece). Continues (ArePiecesOfParts dim) all qs (map filled_part first.rest)) (sym longer)
                (one_made (ArePiecesOfParts dim) all done (filled_part first.part) (map filled_part first.rest) (view_piece piece) first.done (λ qs a. (c.in_ok-filled_piece.ensures.pieces dim first.part first.made_is, a)));
          };
      left = left;
    }

pub returns-clause-pieces : goal.returns-clause-pieces
returns-clause-pieces c = λ dim ps made.
    let items = into_iter_items c.loop-piece.piece-iterator in
    let gone : items ≡ [] = nil_from_length items (sym c.loop-piece.invariant.left ∙ c.in-None.ensures.steps.0) in
    let done = map view_piece c.loop-piece.all_pieces in
    let all = map filled_part ps in
    let to = subst (λ (qs : List PieceMade). IsFilledTo (ArePiecesOfParts dim) dim ps done (map view_piece qs)) gone (c.loop-piece.invariant.filled dim ps made) in
    all_made (ArePiecesOfParts dim) all done tt (subst (λ (qs : List Part). Continues (ArePiecesOfParts dim) all done (map filled_part qs)) (none_filled dim to.rest to.are) to.done)

pub returns-clause-narrow : goal.returns-clause-narrow
returns-clause-narrow c = λ dim ps made.
    let items = into_iter_items c.loop-piece.piece-iterator in
    let gone : items ≡ [] = nil_from_length items (sym c.loop-piece.invariant.left ∙ c.in-None.ensures.steps.0) in
    let done = map view_piece c.loop-piece.all_pieces in
    let to = subst (λ (qs : List PieceMade). IsFilledTo (ArePiecesOfParts dim) dim ps done (map view_piece qs)) gone (c.loop-piece.invariant.filled dim ps made) in
    to.left.narrow (subst (λ (qs : List Part). AreNarrow (bodies_measured qs)) (sym (none_filled dim to.rest to.are)) tt)
