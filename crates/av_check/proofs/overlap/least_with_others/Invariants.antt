use Rattle.std.proofs.Common.{take}
use Rattle.av_check.specs.inner.Least.{IsLeast}
use Rattle.av_check.specs.inner.Coverage.{IsSharedBy}
use Rattle.av_check.proofs.overlap.least_with_others.Given as goal

abbrev pub invariant-loop-other : goal.invariant-loop-other
invariant-loop-other l = IsLeast (IsSharedBy l.domain l.set (take l.other-index l.others)) l.least
