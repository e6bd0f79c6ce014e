use Rattle.std.proofs.Common.{◌≡◌, take}
use Rattle.std.specs.List.{flat_map}
use Rattle.av_flat.specs.Sites.{PlaceMade}
use Rattle.av_flat.specs.Trees.{view}
use Rattle.av_flat.specs.inner.Walked.{reference_at}
use Rattle.av_flat.proofs.sites.tree_references.Given as goal

abbrev pub invariant-loop-place : goal.invariant-loop-place
invariant-loop-place l = l.found ≡ flat_map (λ (p : PlaceMade). reference_at (view p.tree)) (take l.place-index l.place-items)
