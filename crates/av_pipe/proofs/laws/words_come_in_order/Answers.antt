use Rattle.av_pipe.proofs.Ranked.{needs_come_first}
use Rattle.av_pipe.proofs.laws.words_come_in_order.Goals as goal

pub returns : goal.returns
returns c = needs_come_first
