use Rattle.std.proofs.Common.{[], take}
use Rattle.av_flat.specs.Nodes.{nodes}
use Rattle.av_flat.specs.Trees.{view_system}
use Rattle.av_depend.specs.Sites.{sites_from}
use Rattle.av_depend.specs.inner.Adding.{HasAdded}
use Rattle.av_depend.proofs.edging.edges.Given as goal

abbrev pub invariant-loop-node : goal.invariant-loop-node
invariant-loop-node l = HasAdded (view_system l.fn.flat) (sites_from 0 (take l.node (nodes (view_system l.fn.flat)))) [] l.list
