use Rattle.av_depend.specs.Components.{IsJoined}
use Rattle.av_depend.proofs.Rows.{AreReachedTo}
use Rattle.av_depend.proofs.reach.each_reached.Given as goal

abbrev pub invariant-loop-from : goal.invariant-loop-from
invariant-loop-from l = AreReachedTo l.nodes (IsJoined l.edges) l.from l.rows
