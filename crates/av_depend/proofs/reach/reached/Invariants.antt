use Rattle.std.specs.Prelude.{sum_by}
use Rattle.av_depend.specs.Components.{IsJoined}
use Rattle.av_depend.proofs.Marks.{IsSpread, left_by}
use Rattle.av_depend.proofs.reach.reached.Given as goal

abbrev pub invariant-loop-node : goal.invariant-loop-node
invariant-loop-node l = IsSpread l.nodes (IsJoined l.edges) l.fn.from.0 l.marks

abbrev pub decreases-loop-node : goal.decreases-loop-node
decreases-loop-node l = sum_by left_by l.marks
