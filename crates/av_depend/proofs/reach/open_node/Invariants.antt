use Rattle.std.proofs.Common.{ℕ, ◌<◌, get_or}
use Rattle.av_depend.specs.declared.edge.Edge.{Edge}
use Rattle.av_depend.proofs.Marks.{LeadsNot}
use Rattle.av_depend.proofs.reach.open_node.Given as goal

abbrev pub invariant-loop-edge : goal.invariant-loop-edge
invariant-loop-edge l = (d : Edge) (k : ℕ) → k < l.edge-index → LeadsNot l.marks (get_or l.edges k d)
