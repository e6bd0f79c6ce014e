use Rattle.std.proofs.Common.{◌≡◌, ◌++◌, drop}
use Rattle.std.specs.List.{AllByRecursion}
use Rattle.av_flat.specs.Broadcasts.{Reference}
use Rattle.av_pipe.specs.Pipelines.{of_references}
use Rattle.av_pipe.specs.inner.Helping.{IsFineMap}
use Rattle.av_pipe.proofs.site.reference_helpers.Given as goal

-- those so far and those to come are all
abbrev pub invariant-loop-site : goal.invariant-loop-site
invariant-loop-site l = record {
  fine : AllByRecursion (λ (r : Reference). IsFineMap l.piece.points.now r.map) (drop l.site l.found);
  made : l.helpers ++ of_references l.piece.place.0 l.piece.number l.piece.linear.now l.site (drop l.site l.found) ≡ l.initial.helpers ++ of_references l.piece.place.0 l.piece.number l.piece.linear.now 0 l.found;
}
