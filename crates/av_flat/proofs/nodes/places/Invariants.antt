use Rattle.std.proofs.Common.{◌≡◌, map}
use Rattle.std.specs.List.{range_with_len}
use Rattle.av_flat.specs.Trees.{view_system}
use Rattle.av_flat.specs.Nodes.{number_at, node_place}
use Rattle.av_flat.proofs.nodes.places.Given as goal

abbrev pub invariant-loop-place : goal.invariant-loop-place
invariant-loop-place l = l.to ≡ map (node_place (view_system l.fn.flat)) (range_with_len 0 (number_at (view_system l.fn.flat) l.place))
