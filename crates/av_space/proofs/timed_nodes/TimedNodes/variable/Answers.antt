use Rattle.std.proofs.Common.{subst}
use Rattle.av_flat.specs.Legal.{IsLegal}
use Rattle.av_space.proofs.timed_nodes.TimedNodes.variable.Goals as goal

pub returns-clause-legal : goal.returns-clause-legal
returns-clause-legal c = subst IsLegal c.self.view_is c.self.invariant.1
