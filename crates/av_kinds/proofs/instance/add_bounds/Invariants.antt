use Rattle.std.proofs.Common.{◌++◌}
use Rattle.av_kinds.specs.inner.Instances.{bounds_for}
use Rattle.av_kinds.proofs.InstanceSteps.{AreBoundsFrom}
use Rattle.av_kinds.proofs.instance.add_bounds.Given as goal

abbrev pub invariant-loop-k : goal.invariant-loop-k
invariant-loop-k l = AreBoundsFrom l.count l.selections l.k l.operands (l.initial.operands ++ bounds_for l.count l.selections)
