use Rattle.std.proofs.Common.{◌≡◌, ◌++◌, ◌∷◌, [], length, map, List, ap, sym, subst, ◌∙◌, arith}
use Rattle.std.specs.List.{AllByRecursion}
use Rattle.std.specs.Vec.Iter.{into_iter_items, into_iter_len}
use Rattle.std.proofs.lemmas.List.{nil_from_length}
use Rattle.av_flat.specs.declared.flat.Piece.{Piece as PieceMade}
use Rattle.av_flat.specs.Trees.{Piece, view_piece}
use Rattle.av_normal.specs.inner.NonemptyPieces.{AreNonemptyPieces, IsInside}
use Rattle.av_normal.proofs.NonemptyPieces.{next_kept, nonempty_of_all}
use Rattle.av_normal.proofs.nonempty_pieces.pieces_within.Goals as goal

pub loop-piece-preserved : goal.loop-piece-preserved
loop-piece-preserved c =
    let item = c.in-Some.piece in
    let later = into_iter_items c.next.new.self in
    let all = map view_piece c.args.pieces in
    let rest = map view_piece later in
    let kept = c.loop-piece.kept in
    let next : into_iter_items c.loop-piece.piece-iterator ≡ item ∷ later = c.in-Some.ensures.steps.0 in
    let inside = subst (λ (ps : List PieceMade). AllByRecursion (IsInside c.args.within.now) (map view_piece ps)) next c.loop-piece.invariant.inside in
    let made = subst (λ (ps : List PieceMade). (rs : List Piece) → AreNonemptyPieces (map view_piece ps) rs → AreNonemptyPieces all (map view_piece kept ++ rs)) next c.loop-piece.invariant.made in
    let was = c.loop-piece.invariant.left in
    let gone = c.in-Some.ensures.steps.1 in
    let short : length (into_iter_items c.loop-piece.piece-iterator) ≡ length (item ∷ later) = ap length next in
    let left : into_iter_len c.next.new.self ≡ length later = omega (arith, was, gone, short) in
    record {
      inside = inside.1;
      made = next_kept item all rest c.loop-piece.kept c.push_where.new.kept c.in_ok-stays.stays made c.in_ok-stays.ensures c.in_ok-push_where.ensures;
      left = left;
    }

pub returns : goal.returns
returns c =
    let all = map view_piece c.args.pieces in
    let kept = c.loop-piece.kept in
    let items = into_iter_items c.loop-piece.piece-iterator in
    let gone : items ≡ [] = nil_from_length items (sym c.loop-piece.invariant.left ∙ c.in-None.ensures.steps.0) in
    let made = subst (λ (ps : List PieceMade). (rs : List Piece) → AreNonemptyPieces (map view_piece ps) rs → AreNonemptyPieces all (map view_piece kept ++ rs)) gone c.loop-piece.invariant.made in
    nonempty_of_all all (map view_piece kept) made
