use Rattle.std.proofs.Common.{◌≡◌, map, take, []}
use Rattle.av_flat.specs.Trees.{view, trees_of}
use Rattle.av_flat.specs.Pieces.{parts_of_all}
use Rattle.av_normal.specs.inner.Numbered.{signatures_of}
use Rattle.av_normal.specs.inner.UnderMaps.{AreReadable}
use Rattle.av_normal.specs.inner.Sketches.{sketched}
use Rattle.av_normal.proofs.sketch.+sketch_of.Given as goal

-- the trees so far have the parts of the branches so far
abbrev pub invariant-sketch_all-loop-branch : goal.invariant-sketch_all-loop-branch
invariant-sketch_all-loop-branch l = record {
  readable : AreReadable [] [] (trees_of (map view l.trees));
  same : map sketched (parts_of_all [] [] (trees_of (map view l.trees))) ≡ map sketched (parts_of_all (signatures_of l.vars) l.under (trees_of (map view (take l.branch-index l.branches))));
}
