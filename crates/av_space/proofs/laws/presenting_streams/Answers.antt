use Rattle.av_space.proofs.Streams.{presentable}
use Rattle.av_space.proofs.laws.presenting_streams.Goals as goal

pub returns : goal.returns
returns c = λ t a d legal. presentable t a d
