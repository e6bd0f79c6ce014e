use Rattle.std.proofs.Common.{◌≡◌, take, length, ◌-◌, ◌+◌, All}
use Rattle.av_flat.specs.Trees.{view_system}
use Rattle.av_sched.specs.Witnesses.{IsWitness}
use Rattle.av_best.specs.inner.Spans.{AreSpanned}
use Rattle.av_best.proofs.Trying.{IsWalking}
use Rattle.av_best.proofs.walk.+walk.Given as goal

abbrev pub decreases-walk : goal.decreases-walk
decreases-walk l = (length l.space.now.nodes.now - l.level) + (length l.space.now.nodes.now - l.level)

abbrev pub decreases-walk_unless_barred : goal.decreases-walk_unless_barred
decreases-walk_unless_barred l = (length l.space.now.nodes.now - l.level) + (length l.space.now.nodes.now - l.level) + 1

abbrev pub invariant-walk-loop-k : goal.invariant-walk-loop-k
invariant-walk-loop-k l = record {
  walking : IsWalking (view_system l.space.flat.now) l.space.reach.size l.level l.fn.linear l.linear (take l.k l.parts) l.fn.best l.best;
  spanned : AreSpanned (view_system l.space.flat.now) l.level l.fn.linear l.spans;
  wide : length l.spans ≡ length l.space.nodes.now;
  places : All (IsWitness l.space.edges.now l.space.nodes.now) l.pool.witnesses.items;
}
