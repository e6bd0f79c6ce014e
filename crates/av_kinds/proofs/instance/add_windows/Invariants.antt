use Rattle.std.proofs.Common.{◌++◌}
use Rattle.av_kinds.specs.inner.Instances.{windows_for}
use Rattle.av_kinds.proofs.InstanceSteps.{AreWindowsFrom}
use Rattle.av_kinds.proofs.instance.add_windows.Given as goal

abbrev pub invariant-loop-k : goal.invariant-loop-k
invariant-loop-k l = AreWindowsFrom l.count l.windows l.k l.operands (l.initial.operands ++ windows_for l.count l.windows)
