use Rattle.std.proofs.Common.{◌≡◌, map, take}
use Rattle.av_flat.specs.Nodes.{nodes}
use Rattle.av_flat.specs.Trees.{view_system}
use Rattle.av_space.specs.inner.Counting.{piece_sizes}
use Rattle.av_space.proofs.operators.all_sizes.Given as goal

abbrev pub invariant-loop-node : goal.invariant-loop-node
invariant-loop-node l = l.sizes ≡ map piece_sizes (take l.node (nodes (view_system l.timed.flat)))
