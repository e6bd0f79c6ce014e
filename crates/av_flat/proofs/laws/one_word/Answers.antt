use Rattle.av_flat.proofs.Words.{value_once}
use Rattle.av_flat.proofs.laws.one_word.Goals as goal

pub returns : goal.returns
returns c = value_once
