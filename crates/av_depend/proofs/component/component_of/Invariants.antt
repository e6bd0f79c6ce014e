use Rattle.av_depend.proofs.Together.{IsPart}
use Rattle.av_depend.proofs.component.component_of.Given as goal

abbrev pub invariant-loop-other : goal.invariant-loop-other
invariant-loop-other l = IsPart l.rows l.node.0 l.other l.list
