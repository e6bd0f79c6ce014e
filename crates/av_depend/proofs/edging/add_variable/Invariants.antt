use Rattle.std.proofs.Common.{take}
use Rattle.std.specs.List.{flat_map}
use Rattle.av_flat.specs.Trees.{view_system}
use Rattle.av_depend.specs.inner.Adding.{HasAdded}
use Rattle.av_depend.proofs.Walked.{sites_of_piece}
use Rattle.av_depend.proofs.edging.add_variable.Given as goal

abbrev pub invariant-loop-piece : goal.invariant-loop-piece
invariant-loop-piece l = HasAdded (view_system l.nodes) (flat_map (sites_of_piece l.node) (take l.piece-index l.piece-items)) l.initial.edges l.edges
