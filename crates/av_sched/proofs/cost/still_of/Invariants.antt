use Rattle.std.proofs.Common.{◌≡◌, ◌≤◌, take}
use Rattle.av_sched.specs.inner.Ways.{still_among}
use Rattle.av_sched.proofs.cost.still_of.Given as goal

abbrev pub invariant-loop-k : goal.invariant-loop-k
invariant-loop-k l = record {
  so_far : l.count ≡ still_among (take l.k l.ways) l.fn.part;
  small : l.count ≤ l.k;
}
