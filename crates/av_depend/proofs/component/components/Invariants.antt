use Rattle.av_depend.specs.Components.{IsJoined}
use Rattle.av_depend.proofs.Together.{AreComponentsTo}
use Rattle.av_depend.proofs.component.components.Given as goal

abbrev pub invariant-loop-node : goal.invariant-loop-node
invariant-loop-node l = AreComponentsTo l.nodes (IsJoined l.edges) l.node l.list
