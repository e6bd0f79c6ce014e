use Rattle.std.proofs.Common.{◌≡◌, ◌≤◌, map}
use Rattle.std.specs.List.{range_with_len}
use Rattle.av_flat.specs.Trees.{view_system}
use Rattle.av_flat.specs.Nodes.{number_at}
use Rattle.av_flat.proofs.nodes.numbers.Given as goal

abbrev pub invariant-loop-place : goal.invariant-loop-place
invariant-loop-place l = record {
  so_far : l.to ≡ map (number_at (view_system l.fn.flat)) (range_with_len 0 l.place);
  counted : l.number ≡ number_at (view_system l.fn.flat) l.place;
  small : l.number ≤ l.place;
}
