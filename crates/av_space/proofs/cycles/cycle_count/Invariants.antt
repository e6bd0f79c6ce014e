use Rattle.std.proofs.Common.{◌≤◌, ◌^◌}
use Rattle.av_flat.specs.Trees.{view_system}
use Rattle.av_space.proofs.Counts.{IsCountTo}
use Rattle.av_space.proofs.cycles.cycle_count.Given as goal

abbrev pub invariant-loop-node : goal.invariant-loop-node
invariant-loop-node l = record {
  so_far : IsCountTo (view_system l.timed.flat) l.timed.times l.node l.count;
  fits : l.count ≤ 2 ^ 107;
}
