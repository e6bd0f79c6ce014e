use Rattle.av_flat.specs.Trees.{view}
use Rattle.av_flat.specs.Quantities.{piece_count}
use Rattle.av_normal.proofs.PieceByNumber.{two_shares}
use Rattle.av_normal.proofs.piece.two_numbers.Goals as goal

pub returns : goal.returns
returns c =
    two_shares (piece_count (view c.args.right.now)) c.args.number c.piece_count.result c.split.result.0 c.split.result.1 c.piece_count.ensures c.split.ensures.slow c.split.ensures.fast
