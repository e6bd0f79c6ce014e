use Rattle.av_flat.specs.Trees.{view}
use Rattle.av_flat.specs.Quantities.{piece_count}
use Rattle.av_normal.proofs.PieceByNumber.{four_shares}
use Rattle.av_normal.proofs.piece.four_numbers.Goals as goal

pub returns : goal.returns
returns c =
    four_shares (piece_count (view c.args.right.now)) (piece_count (view c.args.yes.now)) (piece_count (view c.args.no.now)) c.args.number
    c.piece_count-2.result c.piece_count.result c.piece_count-fourth_count.result c.saturating_mul-third_count.result c.saturating_mul-second_count.result
    c.split-first.result.0 c.split-first.result.1 c.split-second.result.0 c.split-second.result.1 c.split-third.result.0 c.split-third.result.1
    c.piece_count-2.ensures c.piece_count.ensures c.piece_count-fourth_count.ensures c.saturating_mul-third_count.ensures c.saturating_mul-second_count.ensures
    c.split-first.ensures.slow c.split-first.ensures.fast c.split-second.ensures.slow c.split-second.ensures.fast c.split-third.ensures.slow c.split-third.ensures.fast
