use Rattle.std.proofs.Common.{take}
use Rattle.av_check.specs.inner.Least.{IsLeast}
use Rattle.av_check.specs.inner.Coverage.{IsShared}
use Rattle.av_check.proofs.overlap.least_overlap.Given as goal

abbrev pub invariant-loop-k : goal.invariant-loop-k
invariant-loop-k l = IsLeast (IsShared l.domain (take l.k l.sets)) l.least
