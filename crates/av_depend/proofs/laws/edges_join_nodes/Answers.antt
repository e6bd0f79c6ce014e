use Rattle.av_depend.proofs.Pairs.{joined, joins}
use Rattle.av_depend.proofs.laws.edges_join_nodes.Goals as goal

pub returns : goal.returns
returns c = λ s edges n k chained are. (joined s edges n k chained are, joins s edges n k chained are)
