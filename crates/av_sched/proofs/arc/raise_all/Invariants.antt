use Rattle.std.proofs.Common.{◌≡◌, drop, length}
use Rattle.av_sched.specs.inner.Rounds.{raised_all}
use Rattle.av_sched.proofs.arc.raise_all.Given as goal

-- the arcs that are left make of the offsets what all make of the first ones
abbrev pub invariant-loop-arc : goal.invariant-loop-arc
invariant-loop-arc l = record {
  rest : raised_all l.old (drop l.arc-index l.arcs) l.off.items ≡ raised_all l.old l.arcs l.fn.off.items;
  size : length l.off.items ≡ length l.fn.off.items;
}
