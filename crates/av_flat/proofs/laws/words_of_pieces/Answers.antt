use Rattle.av_flat.proofs.PieceValues.{words_of_parts}
use Rattle.av_flat.proofs.laws.words_of_pieces.Goals as goal

pub returns : goal.returns
returns c = words_of_parts
