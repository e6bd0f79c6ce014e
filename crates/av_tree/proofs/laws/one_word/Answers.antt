use Rattle.av_tree.proofs.Words.{value_once}
use Rattle.av_tree.proofs.laws.one_word.Goals as goal

pub returns : goal.returns
returns c = value_once
