use Rattle.std.proofs.Common.{[]}
use Rattle.av_flat.proofs.Parts.{length_parts}
use Rattle.av_flat.proofs.laws.number_of_pieces.Goals as goal

pub returns : goal.returns
returns c = λ vs t. length_parts vs [] t
