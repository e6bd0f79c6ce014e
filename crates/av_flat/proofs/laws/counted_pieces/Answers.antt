use Rattle.av_flat.proofs.Parts.{pieces_counted}
use Rattle.av_flat.proofs.laws.counted_pieces.Goals as goal

pub returns : goal.returns
returns c = pieces_counted
