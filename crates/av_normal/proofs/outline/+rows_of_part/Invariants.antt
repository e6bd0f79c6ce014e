use Rattle.std.proofs.Common.{◌≡◌, map, drop}
use Rattle.av_flat.specs.Trees.{view, trees_of}
use Rattle.av_normal.specs.inner.Numbered.{signatures_of}
use Rattle.av_normal.specs.inner.PieceByNumber.{AreLeft}
use Rattle.av_normal.proofs.outline.+rows_of_part.Given as goal

-- the part is among those of the branches to come
abbrev pub invariant-rows_of_case-loop-branch : goal.invariant-rows_of_case-loop-branch
invariant-rows_of_case-loop-branch l =
    AreLeft (signatures_of l.vars) l.under (trees_of (map view l.branches)) (trees_of (map view (drop l.branch-index l.branches))) l.number l.left
    × (l.rows ≡ l.fn.rows)
