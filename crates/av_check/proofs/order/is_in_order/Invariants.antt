use Rattle.std.proofs.Common.{◌≡◌, ◌≤◌, length, drop}
use Rattle.av_check.specs.inner.Least.{not_after}
use Rattle.av_check.proofs.order.is_in_order.Given as goal

-- what is left is in order where the whole is
abbrev pub invariant-loop-k : goal.invariant-loop-k
invariant-loop-k l = record {
  within : l.k ≤ length l.other;
  same : not_after (drop l.k l.some) (drop l.k l.other) ≡ not_after l.some l.other;
}
