use Rattle.av_flat.proofs.Words.{value_counted}
use Rattle.av_flat.proofs.laws.counted_word.Goals as goal

pub returns : goal.returns
returns c = value_counted
