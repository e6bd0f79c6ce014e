use Rattle.std.proofs.Common.{◌≡◌, ◌++◌, ◌∷◌, [], List, length, map, ap, sym, subst, ◌∙◌, arith}
use Rattle.std.specs.Vec.Iter.{into_iter_items}
use Rattle.std.proofs.lemmas.List.{nil_from_length}
use Rattle.av_flat.specs.declared.flat.Piece.{Piece as PieceMade}
use Rattle.av_flat.specs.Trees.{view, view_piece}
use Rattle.av_serial.specs.inner.Premises.{PiecesHavePremises}
use Rattle.av_serial.proofs.Building.{ArePiecesSoFar, pieces_step, pieces_end, made_grows, map_push}
use Rattle.av_serial.proofs.Premises.{ready_piece, ready_pieces}
use Rattle.av_serial.proofs.build.pieces_chained.Goals as goal

pub loop-piece-preserved : goal.loop-piece-preserved
loop-piece-preserved c =
    let e = c.args.equation in
    let item = c.in-Some.piece in
    let later = into_iter_items c.next.new.self in
    let next : into_iter_items c.loop-piece.piece-iterator ≡ item ∷ later = c.in-Some.ensures.steps.0 in
    let all = map view_piece c.args.pieces in
    let rest = map view_piece later in
    let p = view_piece item in
    let made = map view_piece c.loop-piece.made in
    let so_far = subst (λ (ps : List PieceMade). ArePiecesSoFar c.args.name.now e.first.0 e.width.bits e.base.0 c.args.chains.now c.loop-piece.chains all (map view_piece ps) made) next c.loop-piece.invariant.made in
    let pushed : map view_piece c.push.new.self ≡ made ++ record { domain = p.domain; tree = view c.in_ok-tree.tree } ∷ [] =
    ap (λ (ps : List PieceMade). map view_piece ps) c.in_ok-push.ensures.ok ∙ map_push view_piece c.loop-piece.made _ in
    let was = c.loop-piece.invariant.left in
    let gone = c.in-Some.ensures.steps.1 in
    let short : length (into_iter_items c.loop-piece.piece-iterator) ≡ length (item ∷ later) = ap length next in
    record {
      ready = ready_pieces c.args.name.now e.first.0 e.width.bits e.base.0 p (view c.in_ok-tree.tree) rest c.loop-piece.chains c.chained.new.chains
          (subst (λ (ps : List PieceMade). PiecesHavePremises c.args.name.now (length c.loop-piece.chains) (map view_piece ps)) next c.loop-piece.invariant.ready) c.in_ok-tree.ensures;
      first = made_grows c.args.name.now e.first.0 e.width.bits e.base.0 c.loop-piece.chains c.chained.new.chains p.tree (view c.in_ok-tree.tree) c.in_ok-tree.ensures c.loop-piece.invariant.first;
      made = pieces_step c.args.name.now e.first.0 e.width.bits e.base.0 c.args.chains.now c.loop-piece.chains c.chained.new.chains all rest made (map view_piece c.push.new.self) p (view c.in_ok-tree.tree) so_far c.in_ok-tree.ensures pushed;
      left = omega (arith, was, gone, short);
    }

pub chained-requires-clause-ready : goal.chained-requires-clause-ready
chained-requires-clause-ready c =
    let later = into_iter_items c.next.new.self in
    let next : into_iter_items c.loop-piece.piece-iterator ≡ c.in-Some.piece ∷ later = c.in-Some.ensures.steps.0 in
    ready_piece c.args.name.now (view_piece c.in-Some.piece) (map view_piece later) (length c.loop-piece.chains)
    (subst (λ (ps : List PieceMade). PiecesHavePremises c.args.name.now (length c.loop-piece.chains) (map view_piece ps)) next c.loop-piece.invariant.ready)

pub returns : goal.returns
returns c =
    let e = c.args.equation in
    let items = into_iter_items c.loop-piece.piece-iterator in
    let gone : items ≡ [] = nil_from_length items (sym c.loop-piece.invariant.left ∙ c.in-None.ensures.steps.0) in
    let all = map view_piece c.args.pieces in
    let made = map view_piece c.loop-piece.made in
    pieces_end c.args.name.now e.first.0 e.width.bits e.base.0 c.args.chains.now c.loop-piece.chains all made
    (subst (λ (ps : List PieceMade). ArePiecesSoFar c.args.name.now e.first.0 e.width.bits e.base.0 c.args.chains.now c.loop-piece.chains all (map view_piece ps) made) gone c.loop-piece.invariant.made)
