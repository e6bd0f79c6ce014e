use Rattle.av_net.proofs.Streams.{are_presentable}
use Rattle.av_net.proofs.laws.presented.Goals as goal

pub returns : goal.returns
returns c = are_presentable
