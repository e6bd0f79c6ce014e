use Rattle.std.proofs.Common.{◌↔◌, ◌≤◌, drop, length}
use Rattle.av_flat.specs.Order.{IsBefore}
use Rattle.av_space.proofs.locate.is_before.Given as goal

abbrev pub invariant-loop-k : goal.invariant-loop-k
invariant-loop-k l = record {
  same : IsBefore (drop l.k l.a) (drop l.k l.b) ↔ IsBefore l.a l.b;
  fits : l.k ≤ length l.b;
}
