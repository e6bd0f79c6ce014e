use Rattle.std.proofs.Common.{take}
use Rattle.std.specs.List.{flat_map}
use Rattle.av_flat.specs.Sites.{PlaceMade}
use Rattle.av_flat.specs.Trees.{view, view_system}
use Rattle.av_depend.specs.inner.Adding.{HasAdded, sites_at}
use Rattle.av_depend.proofs.site.add_tree.Given as goal

abbrev pub invariant-loop-place : goal.invariant-loop-place
invariant-loop-place l = HasAdded (view_system l.nodes) (flat_map (λ (p : PlaceMade). sites_at l.reading.node l.reading.set (view p.tree)) (take l.place-index l.place-items)) l.initial.edges l.edges
