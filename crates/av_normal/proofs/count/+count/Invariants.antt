use Rattle.std.proofs.Common.{◌≡◌, ◌≤◌, ◌+◌, ◌-◌, ◌^◌, min, map, drop}
use Rattle.av_flat.specs.Trees.{view, trees_of}
use Rattle.av_flat.specs.Quantities.{piece_count_of_all}
use Rattle.av_normal.proofs.count.+count.Given as goal

-- those so far and those to come are all
abbrev pub invariant-piece_count_of_all-loop-tree : goal.invariant-piece_count_of_all-loop-tree
invariant-piece_count_of_all-loop-tree l = record {
  sum : min (l.count + piece_count_of_all (trees_of (map view (drop l.tree-index l.trees)))) (2 ^ 128 - 1) ≡ min (piece_count_of_all (trees_of (map view l.trees))) (2 ^ 128 - 1);
  most : l.count ≤ 2 ^ 128 - 1;
}
