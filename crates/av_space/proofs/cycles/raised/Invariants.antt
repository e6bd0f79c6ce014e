use Rattle.std.proofs.Common.{ℕ, ◌≤◌, ◌^◌, pos, ◌<ℤ◌, take, All}
use Rattle.av_flat.specs.Schedules.{cycle}
use Rattle.av_space.proofs.cycles.raised.Given as goal

abbrev pub invariant-loop-point : goal.invariant-loop-point
invariant-loop-point l = record {
  from : l.count ≤ l.most;
  above : All (λ z. cycle l.time z <ℤ pos l.most) (take l.point-index l.points);
  least : (m : ℕ) → l.count ≤ m → All (λ z. cycle l.time z <ℤ pos m) (take l.point-index l.points) → l.most ≤ m;
  fits : l.most ≤ 2 ^ 107;
}
