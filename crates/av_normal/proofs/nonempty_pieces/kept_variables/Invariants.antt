use Rattle.std.proofs.Common.{◌≡◌, map, length, ◌++◌, List}
use Rattle.std.specs.Vec.Iter.{into_iter_items, into_iter_len}
use Rattle.av_flat.specs.Trees.{Variable, view_variable}
use Rattle.av_normal.specs.Pairwise.{Pairwise}
use Rattle.av_normal.specs.inner.NonemptyPieces.{HasNonemptyPieces, IsHeld}
use Rattle.av_normal.proofs.nonempty_pieces.kept_variables.Given as goal

-- those kept so far, and what holds of those to come
abbrev pub invariant-loop-var : goal.invariant-loop-var
invariant-loop-var l = record {
  held : Pairwise IsHeld (map view_variable (into_iter_items l.var-iterator.a)) l.var-iterator.b.rest.now;
  made : (rest : List Variable) → Pairwise HasNonemptyPieces (map view_variable (into_iter_items l.var-iterator.a)) rest → Pairwise HasNonemptyPieces (map view_variable l.fn.vars) (map view_variable l.kept ++ rest);
  left : into_iter_len l.var-iterator.a ≡ length (into_iter_items l.var-iterator.a);
}
