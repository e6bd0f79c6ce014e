use Rattle.av_depend.specs.inner.Generating.{AreGeneratorsTo}
use Rattle.av_depend.proofs.generator.generators.Given as goal

abbrev pub invariant-loop-k : goal.invariant-loop-k
invariant-loop-k l = AreGeneratorsTo l.set l.points l.k l.list
