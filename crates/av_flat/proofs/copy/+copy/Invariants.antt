use Rattle.std.proofs.Common.{◌≡◌, map, take}
use Rattle.av_flat.specs.Trees.{view}
use Rattle.av_flat.proofs.copy.+copy.Given as goal

abbrev pub invariant-copy_trees-loop-tree : goal.invariant-copy_trees-loop-tree
invariant-copy_trees-loop-tree l = map view l.to ≡ map view (take l.tree-index l.trees)
