use Rattle.std.proofs.Common.{◌≡◌, map, take, All}
use Rattle.av_space.specs.Coordinates.{Placing, IsPlacing}
use Rattle.av_space.proofs.placing.placements.Given as goal

abbrev pub invariant-loop-time : goal.invariant-loop-time
invariant-loop-time l = record {
  times : map (λ (p : Placing). p.time) l.list ≡ take l.time-index l.time-items;
  each : All IsPlacing l.list;
}
