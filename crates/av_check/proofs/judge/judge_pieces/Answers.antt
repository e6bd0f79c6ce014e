use Rattle.std.proofs.Common.{◌<◌, length, map, rules}
use Rattle.av_flat.specs.Trees.{view_variable, view_piece, restriction}
use Rattle.av_flat.specs.Signatures.{signature}
use Rattle.av_check.proofs.Judging.{piece_more}
use Rattle.av_check.proofs.judge.judge_pieces.Goals as goal

pub loop-piece-preserved : goal.loop-piece-preserved
loop-piece-preserved c =
    let l : c.loop-piece.piece-index < length c.args.pieces.now = search rules in
    piece_more (map signature (map view_variable c.args.vars.now)) c.args.z.now (λ p. restriction p.domain p.tree) view_piece c.args.pieces.now c.loop-piece.piece-index c.piece-item.result
    c.loop-piece.verdict c.in_ok-own.own c.either-verdict.result l c.piece-item.is c.either-verdict.ensures c.loop-piece.invariant c.in_ok-own.ensures
