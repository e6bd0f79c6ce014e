use Rattle.std.proofs.Common.{ℕ, ◌<◌, ◌≤◌, ◌+◌, List, length, map, drop, rules, subst}
use Rattle.std.proofs.lemmas.Result.{err_from_is_err_and}
use Rattle.std.specs.List.{flat_map}
use Rattle.av_flat.specs.declared.flat.Piece.{Piece as PieceMade}
use Rattle.av_flat.specs.Trees.{Piece, view, view_piece}
use Rattle.av_serial.specs.SerialFaults.{reductions_in, HasNodes}
use Rattle.av_serial.specs.inner.Tries.{CanTryPieces}
use Rattle.av_serial.specs.inner.Counted.{IsCapped}
use Rattle.av_serial.proofs.Finding.{IsWalk, IsCount, walk_more, walk_bad, capped_more, capped_all}
use Rattle.av_serial.proofs.walk.pieces_nodes.Goals as goal
use Rattle.av_base.proofs.Lists.{next_item, nothing_left}

pub returns-in_err-more-clause-bad : goal.returns-in_err-more-clause-bad
returns-in_err-more-clause-bad c =
    let pieces = c.args.pieces.now in
    let i = c.loop-piece.piece-index in
    let l : i < length pieces = search rules in
    let next = next_item pieces i c.piece-item.result l c.piece-item.is in
    let f : List PieceMade → _ = λ (ps : List PieceMade). flat_map (λ (p : Piece). reductions_in c.args.name.now p.tree) (map view_piece ps) in
    let p = err_from_is_err_and c.from_residual.result c.from_residual.ensures.1 in
    rw (p.1, p.2)
    (walk_bad (f pieces) (reductions_in c.args.name.now (view c.piece-item.result.tree)) (f (drop (i + 1) pieces)) (subst (λ (ps : List PieceMade). IsWalk (f pieces) (f ps)) next c.loop-piece.invariant.walk)
    c.in_err-more.field-0.0 c.in_err-more.ensures.bad)

pub loop-piece-preserved : goal.loop-piece-preserved
loop-piece-preserved c =
    let pieces = c.args.pieces.now in
    let i = c.loop-piece.piece-index in
    let l : i < length pieces = search rules in
    let next = next_item pieces i c.piece-item.result l c.piece-item.is in
    let f : List PieceMade → _ = λ (ps : List PieceMade). flat_map (λ (p : Piece). reductions_in c.args.name.now p.tree) (map view_piece ps) in
    let P : Piece → ℕ → Type 0 = λ (p : Piece). HasNodes p.tree in
    record {
      can = (subst (λ (ps : List PieceMade). CanTryPieces (map view_piece ps)) next c.loop-piece.invariant.can).1;
      walk = walk_more (f pieces) (reductions_in c.args.name.now (view c.piece-item.result.tree)) (f (drop (i + 1) pieces)) (subst (λ (ps : List PieceMade). IsWalk (f pieces) (f ps)) next c.loop-piece.invariant.walk) c.in_ok-more.ensures.clean;
      count = capped_more P (map view_piece pieces) (view_piece c.piece-item.result) (map view_piece (drop (i + 1) pieces)) c.loop-piece.count c.in_ok-more.more c.saturating_add-count.result
          (subst (λ (ps : List PieceMade). IsCapped (IsCount P (map view_piece pieces) (map view_piece ps)) c.loop-piece.count) next c.loop-piece.invariant.count) c.in_ok-more.ensures.nodes c.saturating_add-count.ensures;
    }

pub returns-clause-nodes : goal.returns-clause-nodes
returns-clause-nodes c =
    let pieces = c.args.pieces.now in
    let l : length pieces ≤ c.loop-piece.piece-index = search rules in
    let P : Piece → ℕ → Type 0 = λ (p : Piece). HasNodes p.tree in
    capped_all P (map view_piece pieces) c.loop-piece.count
    (subst (λ (ps : List PieceMade). IsCapped (IsCount P (map view_piece pieces) (map view_piece ps)) c.loop-piece.count) (nothing_left pieces c.loop-piece.piece-index l) c.loop-piece.invariant.count)
